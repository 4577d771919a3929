-- The names and columns of both are a table.
use Rattle.std.proofs.Common.{◌∙◌, ◌++◌, ap, ap₂, sym}
use Rattle.vx_table.specs.Table.{names_of, table_fault, table_of}
use Rattle.vx_table.proofs.Tables.{beside_sound, same_table}
use Rattle.vx_table.proofs.table.Table.beside.Goals as goal
use Rattle.vx_bits.proofs.Results.{no_refusal}

pub unreachable-requires : goal.unreachable-requires
unreachable-requires c =
    let t = c.args.self.now in let other = c.args.other.now in
    let names = c.append_names-2.new.to in let columns = c.in_ok-new.field-0 in
    let named = c.in_ok-append_names-2.ensures
    ∙ ap₂ ◌++◌ (c.in_ok-append_names.ensures ∙ ap₂ (λ l m. names_of l ++ m) c.new-names.ensures.items c.names.ensures.value) c.names-2.ensures.value in
    let listed = c.in_ok-new.ensures ∙ c.in_ok-append_columns-2.ensures
    ∙ ap₂ ◌++◌ (c.in_ok-append_columns.ensures ∙ ap₂ ◌++◌ c.new-columns.ensures.items c.columns.ensures.value) c.columns-2.ensures.value in
    let is = same_table (names_of names.items) (t.names ++ other.names) columns (t.columns ++ other.columns) c.len.result t.len named listed c.len.ensures in
    no_refusal (table_fault (table_of names columns c.len.result)) (table_of names columns c.len.result) c.in-Err.field-0
    (ap table_fault is ∙ beside_sound t c.names.ensures.valid other c.names-2.ensures.valid c.requires) (sym c.in-Err.is ∙ c.try_new.ensures)
