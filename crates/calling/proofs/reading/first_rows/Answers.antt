use Rattle.std.proofs.Common.{◌≡◌, ap, sym, ◌∙◌, Err, take}
use Rattle.vortex_select.specs.Answer.{answer_rows}
use Rattle.calling.proofs.FirstRows.{first_answer, free_slice, no_error}
use Rattle.calling.proofs.reading.first_rows.Goals as goal

pub unreachable-requires : goal.unreachable-requires
unreachable-requires c =
    let column = c.args.column.now in
    no_error c.in-Err.field-0 _ column.dtype (take c.args.n column.rows) (first_answer column c.args.n c.requires.within) c.in-Err.ensures.answer
    (λ e. c.select.ensures.no_memory_wanted (free_slice column c.args.n c.requires.plain) (c.in-Err.is ∙ ap Err e))

pub returns-clause-rows : goal.returns-clause-rows
returns-clause-rows c =
    let column = c.args.column.now in
    let same : answer_rows column.dtype (take c.args.n column.rows) ≡ answer_rows c.in-Ok.answer.dtype c.in-Ok.answer.rows = sym (first_answer column c.args.n c.requires.within) ∙ c.in-Ok.ensures.answer in
    cc
