-- The page of the table is that of the structs.
use Rattle.std.proofs.Common.{◌≡◌, None, length, map, subst, sym, ◌∙◌, ap}
use Rattle.std.specs.List.{range_with_len}
use Rattle.vx_model.specs.Column.{Column}
use Rattle.vx_steps.specs.Answer.{answer_rows}
use Rattle.vx_steps.specs.Compose.{IsUnbroken}
use Rattle.vx_steps.specs.Step.{step_value}
use Rattle.vx_steps.specs.Walk.{walk}
use Rattle.vx_table.specs.Page.{IsPage}
use Rattle.vx_table.specs.Table.{TableValue, table_fault}
use Rattle.vx_table.proofs.Tables.{same_count}
use Rattle.vx_rows.specs.Tables.{fields_table}
use Rattle.vx_rows.proofs.Paged.{page_broken, page_sound, paged, wants_memory}
use Rattle.vx_rows.proofs.pages.page_answer.Goals as goal
use Rattle.vx_select.proofs.ChunkRows.{answered_err}
use Rattle.vx_steps.proofs.Unbroken.{counted_walk}

pub returns-in_err-rows : goal.returns-in_err-rows
returns-in_err-rows c =
    let s = c.args.structs.now in let steps = map step_value c.args.steps.now in
    answered_err c.from_residual.result _ c.in_err-rows.field-0.0 c.from_residual.ensures.1
    (page_broken s c.requires.table.sound c.requires.table.valid steps c.args.number c.args.len c.in_err-rows.field-0.0 (rw c.len.ensures at c.in_err-rows.ensures))

pub returns-then-not-is_printable : goal.returns-then-not-is_printable
returns-then-not-is_printable c =
    let s = c.args.structs.now in let steps = map step_value c.args.steps.now in
    let fine : IsUnbroken (walk s.len steps) = counted_walk (walk s.len steps) c.in_ok-rows.rows (rw c.len.ensures at c.in_ok-rows.ensures) in
    page_sound s c.requires.table.sound c.requires.table.valid steps c.args.number c.args.len fine

pub returns-in_err-table : goal.returns-in_err-table
returns-in_err-table c =
    wants_memory c.args.structs.now c.requires.table.sound c.requires.table.valid (map step_value c.args.steps.now) c.args.number c.args.len c.in_ok-rows.rows
    (rw c.len.ensures at c.in_ok-rows.ensures) c.from_residual-in_err-table.result c.from_residual-in_err-table.ensures.1

pub returns-in_err-rows-2 : goal.returns-in_err-rows-2
returns-in_err-rows-2 c =
    wants_memory c.args.structs.now c.requires.table.sound c.requires.table.valid (map step_value c.args.steps.now) c.args.number c.args.len c.in_ok-rows.rows
    (rw c.len.ensures at c.in_ok-rows.ensures) c.from_residual-in_err-rows-2.result c.from_residual-in_err-rows-2.ensures.1

pub returns-in_err-structs_of : goal.returns-in_err-structs_of
returns-in_err-structs_of c =
    wants_memory c.args.structs.now c.requires.table.sound c.requires.table.valid (map step_value c.args.steps.now) c.args.number c.args.len c.in_ok-rows.rows
    (rw c.len.ensures at c.in_ok-rows.ensures) c.from_residual-in_err-structs_of.result c.from_residual-in_err-structs_of.ensures.1

pub returns : goal.returns
returns c =
    let s = c.args.structs.now in let steps = map step_value c.args.steps.now in let p = c.in_ok-rows-2.rows in
    let number = c.args.number in let len = c.args.len in
    let page : IsPage (fields_table s) (range_with_len 0 (length s.columns)) steps number len (walk s.len steps) p =
    subst (λ (t : TableValue). IsPage t (range_with_len 0 (length t.columns)) steps number len (walk t.len steps) p) c.in_ok-table.ensures c.in_ok-rows-2.ensures in
    let valid : table_fault (fields_table s) ≡ None = subst (λ (t : TableValue). table_fault t ≡ None) (c.table.view_is ∙ c.in_ok-table.ensures) c.table.invariant in
    paged s c.requires.table.sound c.requires.table.valid steps number len (same_count (fields_table s) valid) p page
    ∙ ap (λ (x : Column). answer_rows x.dtype x.rows) (sym c.in_ok-structs_of.ensures)
