-- The rows so far.
use Rattle.std.proofs.Common.{take}
use Rattle.vx_arrow_image.specs.Image.{part_of}
use Rattle.vx_arrow_columns.specs.Measured.{ArePlaced}
use Rattle.vx_arrow_columns.specs.Picks.{dense_rows, picks_of}
use Rattle.vx_arrow_columns.proofs.dense.child_places.Given as goal

abbrev pub invariant-loop-k : goal.invariant-loop-k
invariant-loop-k l = ArePlaced (dense_rows (part_of l.node) (take l.k (picks_of l.picks.places.now l.picks.valid.now l.picks.add)) l.j) l.places.items l.end
