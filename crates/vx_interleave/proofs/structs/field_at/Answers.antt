-- The field's column is of its type, and has the row.
use Rattle.std.proofs.Common.{◌<◌, length, get_or, subst, sym, ap, ◌∙◌}
use Rattle.vx_types.specs.DType.{type_of}
use Rattle.vx_types.specs.RowValue.{null}
use Rattle.vx_model.specs.Column.{Column}
use Rattle.vx_model.specs.Struct.{struct_of}
use Rattle.vx_column.specs.Cell.{row_of}
use Rattle.vx_column.specs.declared.cell.Cell.{Cell}
use Rattle.vx_interleave.specs.Rows.{IsCellOf}
use Rattle.vx_interleave.specs.Sources.{IsSourceOf}
use Rattle.vx_interleave.specs.Structs.{field_in}
use Rattle.vx_interleave.proofs.CellRows.{field_below, field_row, field_source, field_within}
use Rattle.vx_interleave.proofs.structs.field_at.Goals as goal

pub get-requires : goal.get-requires
get-requires c =
    let row = c.in-Fields.row in
    field_below c.args.fields.now row.columns.now row.row c.args.k (type_of c.args.dtype.now)
    (subst (IsCellOf (struct_of c.args.fields.now)) c.in-Fields.is c.requires.of_kind) c.requires.field

pub cell_in-requires-clause-source : goal.cell_in-requires-clause-source
cell_in-requires-clause-source c =
    let row = c.in-Fields.row in
    subst (IsSourceOf (type_of c.args.dtype.now)) (sym c.deref.ensures)
    (field_source c.args.fields.now row.columns.now row.row c.args.k (type_of c.args.dtype.now)
    (subst (IsCellOf (struct_of c.args.fields.now)) c.in-Fields.is c.requires.of_kind) c.requires.field c.get.result.now c.get.ensures)

pub cell_in-requires-clause-within : goal.cell_in-requires-clause-within
cell_in-requires-clause-within c =
    let row = c.in-Fields.row in
    subst (λ (x : Column). row.row < length x.rows) (sym c.deref.ensures)
    (field_within c.args.fields.now row.columns.now row.row c.args.k (type_of c.args.dtype.now)
    (subst (IsCellOf (struct_of c.args.fields.now)) c.in-Fields.is c.requires.of_kind) c.requires.field c.get.result.now c.get.ensures)

pub returns-in-Fields-clause-row : goal.returns-in-Fields-clause-row
returns-in-Fields-clause-row c =
    let row = c.in-Fields.row in let t = type_of c.args.dtype.now in
    c.cell_in.ensures.row
    ∙ ap (λ (x : Column). get_or x.rows row.row null) c.deref.ensures
    ∙ field_row c.args.fields.now row.columns.now row.row c.args.k t
    (subst (IsCellOf (struct_of c.args.fields.now)) c.in-Fields.is c.requires.of_kind) c.requires.field c.get.result.now c.get.ensures
    ∙ ap (λ (x : Cell). field_in t c.args.k (row_of x)) (sym c.in-Fields.is)
