-- The answer by the composed picks.
use Rattle.std.proofs.Common.{◌∙◌, map, ap}
use Rattle.vx_types.specs.TypeTree.{also_nullable}
use Rattle.vx_steps.specs.Step.{step_value}
use Rattle.vx_steps.specs.Walk.{walk}
use Rattle.vx_steps.specs.Answer.{answer_of}
use Rattle.vx_steps.specs.declared.cause.SelectError.TheVariants.{NoMemory}
use Rattle.vx_select.specs.Chunks.{chunk_rows}
use Rattle.vx_select.proofs.ChunkRows.{answered_err, answered_fault, answered_rows, answered_unbroken, unbroken_picks, count_by_shape}
use Rattle.vx_select.proofs.chunked.select_chunked.Goals as goal

pub returns-in_err-picks-clause-answer : goal.returns-in_err-picks-clause-answer
returns-in_err-picks-clause-answer g c =
    let s = c.args.shape.now in let steps = map step_value c.args.steps.now in
    let values = g.D.ChunkDecoder.values c.args.decoder.now in let rows = chunk_rows s values in
    let long = count_by_shape s values c.len.result c.requires.values c.len.ensures.value c.len.ensures.fitting in
    answered_err c.from_residual.result (answer_of s.dtype rows steps) c.in_err-picks.field-0.0 c.from_residual.ensures.1
    (answered_fault s.dtype rows steps c.len.result long c.in_err-picks.field-0.0 c.in_err-picks.ensures.fault)

pub returns-in_err-take_chunked-clause-answer : goal.returns-in_err-take_chunked-clause-answer
returns-in_err-take_chunked-clause-answer g c =
    let s = c.args.shape.now in let steps = map step_value c.args.steps.now in
    let values = g.D.ChunkDecoder.values c.args.decoder.now in let rows = chunk_rows s values in
    let long = count_by_shape s values c.len.result c.requires.values c.len.ensures.value c.len.ensures.fitting in
    answered_err c.from_residual-in_err-take_chunked.result (answer_of s.dtype rows steps) NoMemory c.from_residual-in_err-take_chunked.ensures.1
    (answered_unbroken s.dtype rows steps c.len.result long (unbroken_picks (walk c.len.result steps) c.in_ok-picks.picks.picks c.in_ok-picks.ensures.picks))

pub returns-clause-answer : goal.returns-clause-answer
returns-clause-answer g c =
    let s = c.args.shape.now in let steps = map step_value c.args.steps.now in
    let values = g.D.ChunkDecoder.values c.args.decoder.now in let p = c.in_ok-picks.picks in let a = c.in_ok-take_chunked.field-0 in
    let long = count_by_shape s values c.len.result c.requires.values c.len.ensures.value c.len.ensures.fitting in
    answered_rows s.dtype (chunk_rows s values) steps c.len.result long p.picks a.dtype a.rows c.in_ok-picks.ensures.picks
    (c.in_ok-take_chunked.ensures.dtype ∙ ap (also_nullable s.dtype) c.takes_nullability-nullability.ensures) c.in_ok-take_chunked.ensures.rows
