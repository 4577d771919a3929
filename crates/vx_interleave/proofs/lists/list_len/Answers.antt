-- As many as its range has.
use Rattle.std.proofs.Common.{length, sym, ap, subst, ◌∙◌}
use Rattle.vx_types.specs.DType.{type_of}
use Rattle.vx_column.specs.Cell.{row_of}
use Rattle.vx_column.specs.declared.cell.Cell.{Cell}
use Rattle.vx_interleave.specs.Lists.{elements_in}
use Rattle.vx_interleave.specs.Rows.{IsCellOf}
use Rattle.vx_interleave.proofs.ListCells.{length-list, no_list}
use Rattle.vx_interleave.proofs.lists.list_len.Goals as goal

pub returns-in-List : goal.returns-in-List
returns-in-List c =
    let k = (type_of c.args.lists.now).kind in let l = c.in-List.list in
    length-list k l.elements.now l.start l.end (subst (IsCellOf k) c.in-List.is c.requires)
    ∙ ap (λ (x : Cell). length (elements_in (row_of x))) (sym c.in-List.is)

pub returns-in_default : goal.returns-in_default
returns-in_default c = sym (ap length (no_list c.args.cell c.in_default.not-List))
