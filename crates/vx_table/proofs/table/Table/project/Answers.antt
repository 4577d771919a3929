-- The chosen names and columns are a table.
use Rattle.std.proofs.Common.{◌∙◌, ap, sym}
use Rattle.vx_table.specs.Table.{names_of, table_fault, table_of}
use Rattle.vx_table.specs.Taken.{items_by_number}
use Rattle.vx_table.proofs.Tables.{projected_sound, same_table}
use Rattle.vx_table.proofs.table.Table.project.Goals as goal
use Rattle.vx_bits.proofs.Results.{no_refusal}

pub unreachable-requires : goal.unreachable-requires
unreachable-requires c =
    let t = c.args.self.now in let numbers = c.args.projection.now in
    let is = same_table (names_of c.in_ok-names.names.items) (items_by_number numbers t.names) c.in_ok-columns.columns (items_by_number numbers t.columns) c.len.result t.len
    (c.in_ok-names.ensures ∙ ap (items_by_number numbers) c.names.ensures.value) (c.in_ok-columns.ensures ∙ ap (items_by_number numbers) c.columns.ensures.value) c.len.ensures in
    no_refusal (table_fault (table_of c.in_ok-names.names c.in_ok-columns.columns c.len.result)) (table_of c.in_ok-names.names c.in_ok-columns.columns c.len.result) c.in-Err.field-0
    (ap table_fault is ∙ projected_sound t c.names.ensures.valid numbers c.requires) (sym c.in-Err.is ∙ c.try_new.ensures)
