-- By the check of the steps, which comes before any memory is asked for.
use Rattle.std.proofs.Common.{map}
use Rattle.vx_steps.specs.Step.{step_value}
use Rattle.vx_steps.specs.Answer.{answer_of}
use Rattle.vx_steps.specs.declared.cause.SelectError.TheVariants.{NoMemory}
use Rattle.vx_select.specs.Chunks.{chunk_rows}
use Rattle.vx_select.proofs.ChunkRows.{count_by_shape}
use Rattle.vx_rows.proofs.Checked.{answers_err, found_broken, found_sound}
use Rattle.vx_rows.proofs.answering.answer_by_calls.Goals as goal

pub returns-in_err-check_steps : goal.returns-in_err-check_steps
returns-in_err-check_steps g c =
    let s = c.args.shape.now in let steps = map step_value c.args.steps.now in let rows = chunk_rows s c.args.values.now in
    let long = count_by_shape s c.args.values.now c.len.result c.requires.enough c.len.ensures.value c.len.ensures.fitting in
    answers_err c.from_residual.result (answer_of s.dtype rows steps) _ c.in_err-check_steps.field-0.0 c.from_residual.ensures.1
    (found_broken s.dtype rows steps c.len.result long c.in_err-check_steps.field-0.0 c.in_err-check_steps.ensures)

pub returns-in_err-decoder : goal.returns-in_err-decoder
returns-in_err-decoder g c =
    let s = c.args.shape.now in let steps = map step_value c.args.steps.now in let rows = chunk_rows s c.args.values.now in
    let long = count_by_shape s c.args.values.now c.len.result c.requires.enough c.len.ensures.value c.len.ensures.fitting in
    answers_err c.from_residual-in_err-decoder.result (answer_of s.dtype rows steps) _ NoMemory c.from_residual-in_err-decoder.ensures.1
    (found_sound s.dtype rows steps c.len.result long c.in_ok-check_steps.field-0 c.in_ok-check_steps.ensures)
