-- The nodes so far are like the first.
use Rattle.std.proofs.Common.{ℕ, ◌<◌}
use Rattle.vx_arrow_image.specs.Image.{parts_of}
use Rattle.vx_arrow_interleave.specs.Sources.{IsLike, part_at}
use Rattle.vx_arrow_interleave.proofs.sources.tested.Given as goal

abbrev pub invariant-loop-s : goal.invariant-loop-s
invariant-loop-s l = (s : ℕ) → s < l.s → IsLike (part_at (parts_of l.sources) 0) (part_at (parts_of l.sources) s)
