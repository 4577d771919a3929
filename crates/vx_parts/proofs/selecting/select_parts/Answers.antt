-- The first broken step, or `NoMemory` where none is broken.
use Rattle.std.proofs.Common.{ℕ, List, map, replicate, ap, ap₂, sym, ◌∙◌, subst}
use Rattle.vx_types.specs.DType.{type_of}
use Rattle.vx_types.specs.RowValue.{RowValue, null}
use Rattle.vx_types.specs.TypeTree.{TypeTree, is_flat}
use Rattle.vx_model.specs.Column.{Column}
use Rattle.vx_model.specs.Null.{null_column}
use Rattle.vx_interleave.specs.Places.{joined}
use Rattle.vx_interleave.specs.Sources.{rows_of}
use Rattle.vx_steps.specs.Step.{step_value}
use Rattle.vx_steps.specs.Walk.{walk}
use Rattle.vx_steps.specs.Answer.{answer, answer_of}
use Rattle.vx_select.specs.Select.{IsAnswer, needs_no_memory}
use Rattle.vx_interleave.proofs.NullRows.{nulls_joined}
use Rattle.vx_parts.proofs.PartSlices.{sum_lengths}
use Rattle.vx_parts.proofs.WholeFaults.{IsNoAnswer, fault_told, memory_told, no_answer}
use Rattle.vx_parts.proofs.selecting.select_parts.Goals as goal
use Rattle.vx_steps.proofs.Unbroken.{counted_walk}

pub returns-in_err-check_steps-clause-answer : goal.returns-in_err-check_steps-clause-answer
returns-in_err-check_steps-clause-answer c =
    let t = type_of c.args.dtype.now in let rows = joined (rows_of c.args.parts.now) in let ss = map step_value c.args.steps.now in
    let count = c.total_rows-len.ensures ∙ sum_lengths (rows_of c.args.parts.now) in
    let told = fault_told t rows ss c.total_rows-len.result c.in_err-check_steps.field-0.0 count c.in_err-check_steps.ensures in
    no_answer c.from_residual.result (answer_of t rows ss) _ c.from_residual.ensures.1 (λ e is. subst (IsNoAnswer (answer_of t rows ss)) (sym is) told)

pub returns-in_err-select_sound-clause-answer : goal.returns-in_err-select_sound-clause-answer
returns-in_err-select_sound-clause-answer c =
    let t = type_of c.args.dtype.now in let rows = joined (rows_of c.args.parts.now) in let ss = map step_value c.args.steps.now in
    let count = c.total_rows-len.ensures ∙ sum_lengths (rows_of c.args.parts.now) in
    let unbroken = counted_walk (walk c.total_rows-len.result ss) c.in_ok-check_steps.field-0 c.in_ok-check_steps.ensures in
    no_answer c.from_residual-in_err-select_sound.result (answer_of t rows ss) _ c.from_residual-in_err-select_sound.ensures.1
    (λ e is. subst (IsNoAnswer (answer_of t rows ss)) (sym is) (memory_told t rows ss c.total_rows-len.result count unbroken))

-- ---- nulls alone

pub returns-then-are_nulls-clause-answer : goal.returns-then-are_nulls-clause-answer
returns-then-are_nulls-clause-answer c =
    let parts = c.args.parts.now in let ss = map step_value c.args.steps.now in
    let rows = ap (λ (n : ℕ). replicate n null) c.total_rows-len.ensures ∙ nulls_joined parts (c.are_nulls.ensures.rows c.if-are_nulls.true) in
    let dtype = (c.are_nulls.ensures.exactly.0 c.if-are_nulls.true).dtype in
    subst (IsAnswer c.select.result)
    (ap (λ (x : Column). answer x ss) (c.into_array.ensures ∙ ap null_column c.new.ensures)
    ∙ ap₂ (λ (u : TypeTree) (xs : List RowValue). answer_of u xs ss) (sym dtype) rows)
    c.select.ensures.answer

pub returns-then-are_nulls-clause-direct : goal.returns-then-are_nulls-clause-direct
returns-then-are_nulls-clause-direct c = c.select.ensures.direct

pub returns-then-are_nulls-clause-unwrapped : goal.returns-then-are_nulls-clause-unwrapped
returns-then-are_nulls-clause-unwrapped c = λ flat. c.select.ensures.unwrapped (ap (λ (x : Column). is_flat x.dtype) c.into_array.ensures)

pub returns-then-are_nulls-clause-null : goal.returns-then-are_nulls-clause-null
returns-then-are_nulls-clause-null c = λ nulls. c.select.ensures.no_memory_wanted (ap (λ (x : Column). needs_no_memory x (map step_value c.args.steps.now)) c.into_array.ensures)
