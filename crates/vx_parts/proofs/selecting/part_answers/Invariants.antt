-- The answers of the parts so far.
use Rattle.std.proofs.Common.{◌≡◌, ℕ, ◌<◌, length}
use Rattle.std.specs.Prelude.{IfSome, slice_get}
use Rattle.vx_types.specs.DType.{type_of}
use Rattle.vx_interleave.specs.Places.{list_of}
use Rattle.vx_interleave.specs.Sources.{rows_of}
use Rattle.vx_parts.specs.Plan.{steps_in}
use Rattle.vx_parts.specs.Putting.{IsPartAnswer}
use Rattle.vx_parts.proofs.selecting.part_answers.Given as goal

abbrev pub invariant-loop-k : goal.invariant-loop-k
invariant-loop-k l = record {
  many : length l.answers.items ≡ l.k;
  each : (j : ℕ) → j < l.k → IfSome (slice_get l.answers.items j) (IsPartAnswer (type_of l.dtype) (list_of (rows_of l.parts) j) (list_of (steps_in l.plan.parts.items) j));
}
