-- The bytes so far are 0.
use Rattle.std.proofs.Common.{◌≡◌, ℕ, ◌<◌, ◌≤◌}
use Rattle.vx_arrow_image.specs.Image.{part_of}
use Rattle.vx_arrow_strict.specs.Texts.{view_byte}
use Rattle.vx_arrow_strict.proofs.texts.is_padded.Given as goal

abbrev pub invariant-loop-k : goal.invariant-loop-k
invariant-loop-k l = (j : ℕ) → l.len ≤ j → j < l.k → view_byte (part_of l.node) l.i j ≡ 0
