-- A row ends within the elements.
use Rattle.std.proofs.Common.{◌+◌, ap₂, sym, ◌∙◌}
use Rattle.vx_model.proofs.ListRows.{span-listview}
use Rattle.vx_column.proofs.listview.ListViewArray.span_at.Goals as goal

pub returns-clause-span : goal.returns-clause-span
returns-clause-span c =
    span-listview c.args.self.now c.elements.ensures.valid c.args.i c.requires
    ∙ ap₂ (λ a b. (a, a + b)) (sym c.offset_at-start.ensures) (sym c.size_at-size.ensures)
