-- The rows so far have codes below the limit.
use Rattle.std.proofs.Common.{◌≡◌, ℕ, ◌<◌, ◌≤◌, true}
use Rattle.std.specs.Prelude.{nat_lt}
use Rattle.vx_arrow_image.specs.Image.{if_valid, part_of}
use Rattle.vx_arrow_strict.specs.Codes.{code_of}
use Rattle.vx_arrow_strict.proofs.codes.are_below.Given as goal

abbrev pub invariant-loop-i : goal.invariant-loop-i
invariant-loop-i l = (j : ℕ) → l.start ≤ j → j < l.i → if_valid (part_of l.node) (λ k. nat_lt (code_of (part_of l.node) k) l.limit) j ≡ true
