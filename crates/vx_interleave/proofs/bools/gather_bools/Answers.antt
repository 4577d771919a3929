-- The bits under the validity.
use Rattle.std.proofs.Common.{map, length, ap, sym, ◌∙◌}
use Rattle.std.proofs.lemmas.List.{length-map}
use Rattle.vx_types.specs.RowValue.{bit}
use Rattle.vx_types.specs.TypeTree.{bool_kind}
use Rattle.vx_model.specs.Bool.{BoolParts, bool_column}
use Rattle.vx_model.specs.Column.{Column}
use Rattle.vx_model.specs.Plain.{is_unwrapped}
use Rattle.vx_column.specs.Validity.{valid_of}
use Rattle.vx_interleave.specs.Rows.{rows_in, stored_as}
use Rattle.vx_interleave.proofs.PlainRows.{flat_cover}
use Rattle.vx_interleave.proofs.Shown.{fits, shown}
use Rattle.vx_interleave.proofs.bools.gather_bools.Goals as goal

pub of-requires : goal.of-requires
of-requires c =
    let rows = rows_in c.args.cells.now in let bits = c.in_ok-bits.bits.bits in
    fits c.args.nullability rows (valid_of c.in_ok-validity.validity) (length bits) c.in_ok-validity.ensures
    (sym (length-map bits bit) ∙ ap length c.in_ok-bits.ensures ∙ length-map rows (stored_as bool_kind))

pub returns-clause-rows : goal.returns-clause-rows
returns-clause-rows c =
    let rows = rows_in c.args.cells.now in
    ap (λ (a : Column). a.rows) c.into_array.ensures ∙ ap (λ (p : BoolParts). (bool_column p).rows) c.of.ensures
    ∙ shown c.args.nullability bool_kind rows (map bit c.in_ok-bits.bits.bits) (valid_of c.in_ok-validity.validity) c.in_ok-validity.ensures c.in_ok-bits.ensures

pub returns-clause-unwrapped : goal.returns-clause-unwrapped
returns-clause-unwrapped c =
    ap is_unwrapped c.into_array.ensures ∙ ap (λ (p : BoolParts). is_unwrapped (bool_column p)) c.of.ensures
    ∙ flat_cover c.args.nullability (rows_in c.args.cells.now) (valid_of c.in_ok-validity.validity) c.in_ok-validity.ensures
