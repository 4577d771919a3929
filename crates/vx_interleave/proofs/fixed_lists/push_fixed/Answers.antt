-- As many elements as the size says.
use Rattle.std.proofs.Common.{List, length, sym, ap, subst, ◌∙◌}
use Rattle.std.proofs.lemmas.List.{length-replicate}
use Rattle.vx_types.specs.DType.{type_of}
use Rattle.vx_types.specs.RowValue.{RowValue}
use Rattle.vx_model.specs.Filler.{filler_row}
use Rattle.vx_interleave.specs.Lists.{AddsRows}
use Rattle.vx_interleave.proofs.ListCells.{fixed_list, no_fixed}
use Rattle.vx_interleave.proofs.Shown.{on_ok}
use Rattle.vx_interleave.proofs.fixed_lists.push_fixed.Goals as goal

pub returns-else-list_len-size-clause-rows : goal.returns-else-list_len-size-clause-rows
returns-else-list_len-size-clause-rows c =
    let t = type_of c.args.dtype.now in
    on_ok _ _ c.push_list.result c.push_list.ensures
    (subst (λ (rows : List RowValue). AddsRows t rows c.args.cells.now.items c.push_list.new.cells.items) (fixed_list t c.args.size c.args.cell c.in-List.field-0 c.in-List.is))

pub returns-else-list_len-size-clause-size : goal.returns-else-list_len-size-clause-size
returns-else-list_len-size-clause-size c =
    on_ok _ _ c.push_list.result c.push_list.ensures
    (λ _. ap length (sym (fixed_list (type_of c.args.dtype.now) c.args.size c.args.cell c.in-List.field-0 c.in-List.is)) ∙ sym c.list_len.ensures ∙ c.if-list_len-size.false)

pub returns-in_default-clause-rows : goal.returns-in_default-clause-rows
returns-in_default-clause-rows c =
    let t = type_of c.args.dtype.now in
    on_ok _ _ c.push_nulls.result c.push_nulls.ensures
    (subst (λ (rows : List RowValue). AddsRows t rows c.args.cells.now.items c.push_nulls.new.cells.items)
    (no_fixed t c.args.size c.args.cell c.in_default.not-List))

pub returns-in_default-clause-size : goal.returns-in_default-clause-size
returns-in_default-clause-size c =
    let t = type_of c.args.dtype.now in
    on_ok _ _ c.push_nulls.result c.push_nulls.ensures
    (λ _. ap length (sym (no_fixed t c.args.size c.args.cell c.in_default.not-List)) ∙ length-replicate c.args.size (filler_row t))
