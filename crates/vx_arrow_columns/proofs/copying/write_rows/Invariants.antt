-- The rows so far.
use Rattle.vx_arrow_image.specs.Image.{part_of}
use Rattle.vx_arrow_columns.specs.Picks.{picks_of}
use Rattle.vx_arrow_columns.specs.Taken.{AreCopied}
use Rattle.vx_arrow_columns.proofs.copying.write_rows.Given as goal

abbrev pub invariant-loop-k : goal.invariant-loop-k
invariant-loop-k g l = AreCopied g.row.W l.src (part_of l.node) (picks_of l.picks.places.now l.picks.valid.now l.picks.add) l.k l.out
