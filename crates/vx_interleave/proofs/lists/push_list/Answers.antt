-- The elements are of their type.
use Rattle.std.proofs.Common.{List, sym, ap, subst, ◌∙◌}
use Rattle.vx_types.specs.DType.{type_of}
use Rattle.vx_types.specs.RowValue.{RowValue}
use Rattle.vx_column.specs.Cell.{row_of}
use Rattle.vx_column.specs.declared.cell.Cell.{Cell}
use Rattle.vx_interleave.specs.Lists.{AddsRows, elements_in}
use Rattle.vx_interleave.specs.Rows.{IsCellOf}
use Rattle.vx_interleave.proofs.ListCells.{adds_none_as, element_source, elements-list, no_list}
use Rattle.vx_interleave.proofs.Shown.{on_ok}
use Rattle.vx_interleave.proofs.lists.push_list.Goals as goal

pub push_rows-requires : goal.push_rows-requires
push_rows-requires c =
    let k = (type_of c.args.lists.now).kind in let l = c.in-List.list in
    let are = subst (IsCellOf k) c.in-List.is c.requires.of_kind in
    record {
      source = element_source k (type_of c.args.dtype.now) l.elements.now l.start l.end c.requires.elements are;
      ordered = are.ordered;
      within = are.within;
    }

pub returns-in-List : goal.returns-in-List
returns-in-List c =
    let l = c.in-List.list in
    on_ok _ _ c.push_rows.result c.push_rows.ensures
    (subst (λ (rows : List RowValue). AddsRows (type_of c.args.dtype.now) rows c.args.cells.now.items c.push_rows.new.cells.items)
    (sym (ap (λ (x : Cell). elements_in (row_of x)) c.in-List.is ∙ elements-list l.elements.now l.start l.end)))

pub returns-in_default : goal.returns-in_default
returns-in_default c =
    adds_none_as (type_of c.args.dtype.now) (elements_in (row_of c.args.cell)) c.args.cells.now.items (no_list c.args.cell c.in_default.not-List)
