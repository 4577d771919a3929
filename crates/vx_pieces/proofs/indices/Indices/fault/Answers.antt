-- The fault is that of the column.
use Rattle.std.proofs.Common.{sym, ap, ◌∙◌}
use Rattle.vx_model.specs.Column.{Column}
use Rattle.vx_pieces.specs.Indices.{column_fault, index_fault, index_value}
use Rattle.vx_pieces.proofs.indices.Indices.fault.Goals as goal

pub returns-in-Array : goal.returns-in-Array
returns-in-Array c =
    c.column_fault.ensures ∙ ap (λ (d : Column). column_fault d c.args.len) (c.deref.ensures ∙ c.array.ensures.value) ∙ sym (ap (λ i. index_fault (index_value i) c.args.len) c.in-Array.is)
