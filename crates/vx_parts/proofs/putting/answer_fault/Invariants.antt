-- No answer so far is at fault.
use Rattle.std.proofs.Common.{◌≡◌, drop}
use Rattle.vx_types.specs.DType.{type_of}
use Rattle.vx_parts.specs.Plan.{lens_in}
use Rattle.vx_parts.specs.Putting.{answer_fault}
use Rattle.vx_parts.proofs.putting.answer_fault.Given as goal

abbrev pub invariant-loop-k : goal.invariant-loop-k
invariant-loop-k l =
    answer_fault l.k (type_of l.dtype) (drop l.k (lens_in l.parts)) (drop l.k l.answers) ≡ answer_fault 0 (type_of l.dtype) (lens_in l.parts) l.answers
