-- The structs under the validity.
use Rattle.std.proofs.Common.{length, ap, sym, ◌∙◌}
use Rattle.std.proofs.lemmas.List.{length-map}
use Rattle.vx_model.specs.Column.{Column}
use Rattle.vx_model.specs.Columns.{are_long}
use Rattle.vx_column.specs.Cell.{row_of}
use Rattle.vx_column.specs.Validity.{valid_of}
use Rattle.vx_interleave.specs.Rows.{rows_in}
use Rattle.vx_interleave.proofs.CellRows.{structs_shown}
use Rattle.vx_interleave.proofs.FieldRows.{fields_long, fields_types}
use Rattle.vx_interleave.proofs.Shown.{fits}
use Rattle.vx_interleave.proofs.structs.gather_structs.Goals as goal

pub structs-requires-clause-types : goal.structs-requires-clause-types
structs-requires-clause-types c = fields_types 0 c.args.fields.now.types (rows_in c.args.cells.now) c.args.columns c.requires.columns

pub structs-requires-clause-long : goal.structs-requires-clause-long
structs-requires-clause-long c =
    let items = c.args.cells.now in
    ap (λ n. are_long n c.args.columns) (sym (length-map items row_of)) ∙ fields_long 0 c.args.fields.now.types (rows_in items) c.args.columns c.requires.columns

pub structs-requires-clause-fitting : goal.structs-requires-clause-fitting
structs-requires-clause-fitting c =
    let items = c.args.cells.now in
    fits c.args.nullability (rows_in items) (valid_of c.in_ok-validity.validity) (length items) c.in_ok-validity.ensures (sym (length-map items row_of))

pub returns-clause-rows : goal.returns-clause-rows
returns-clause-rows c =
    ap (λ (a : Column). a.rows) c.structs.ensures
    ∙ structs_shown c.args.fields.now c.args.nullability c.args.cells.now c.args.columns (valid_of c.in_ok-validity.validity) c.requires.of_kind c.in_ok-validity.ensures c.requires.columns
