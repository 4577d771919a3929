-- The bits so far.
use Rattle.std.proofs.Common.{◌≡◌, ℕ, ◌<◌, ◌/◌, ◌+◌, length}
use Rattle.vx_arrow_image.specs.Image.{bit_of, is_valid}
use Rattle.vx_arrow_columns.proofs.fixed_lists.item_valid.Given as goal

abbrev pub invariant-loop-m : goal.invariant-loop-m
invariant-loop-m l = ((j : ℕ) → j < l.m → bit_of l.bits.items j ≡ is_valid l.valid (j / l.width)) × (length l.bits.items ≡ l.count / 8 + 1)
