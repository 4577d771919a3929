-- The bytes so far are the same.
use Rattle.std.proofs.Common.{◌≡◌, ℕ, ◌+◌, ◌<◌, get_or}
use Rattle.vx_arrow_image.specs.Image.{part_of}
use Rattle.vx_arrow_strict.specs.Texts.{view_byte}
use Rattle.vx_arrow_strict.proofs.texts.is_prefixed.Given as goal

abbrev pub invariant-loop-k : goal.invariant-loop-k
invariant-loop-k l = (j : ℕ) → j < l.k → view_byte (part_of l.node) l.i j ≡ get_or l.buffer.values.now (l.at + j) 0
