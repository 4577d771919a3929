-- The ids under the validity of the rows.
use Rattle.std.proofs.Common.{◌≡◌, ℕ, List, Option, map, length, subst, sym, ap, ◌∙◌}
use Rattle.std.proofs.lemmas.List.{length-map}
use Rattle.vx_types.specs.RowValue.{bytes}
use Rattle.vx_types.specs.TypeTree.{primitive_kind, primitive_type}
use Rattle.vx_types.specs.declared.ptype.PType.TheVariants.{U8}
use Rattle.vx_model.specs.Column.{Column}
use Rattle.vx_column.specs.Validity.{valid_of}
use Rattle.vx_interleave.specs.Rows.{IsValidityOf, rows_in, shown_as, stored_as}
use Rattle.vx_interleave.specs.Tags.{id_row, tag_in}
use Rattle.vx_interleave.specs.Unions.{variant_row, variant_rows}
use Rattle.vx_interleave.proofs.Shown.{fits, shown}
use Rattle.vx_interleave.proofs.UnionRows.{ids_shown, ids_valid}
use Rattle.vx_interleave.proofs.unions.gather_ids.Goals as goal

pub record_column-requires-clause-fitting : goal.record_column-requires-clause-fitting
record_column-requires-clause-fitting c =
    let v = c.args.variants.now in let n = c.args.nullability in let rows = rows_in c.args.cells.now in let tags = c.args.tags.now in
    let records = c.in_ok-id_records.field-0 in
    fits n rows (valid_of c.in_ok-validity.validity) (length records) c.in_ok-validity.ensures
    (sym (length-map records bytes) ∙ ap length c.in_ok-id_records.ensures
    ∙ length-map (map id_row tags) (stored_as (primitive_kind U8)) ∙ length-map tags id_row
    ∙ ap length c.requires.tags ∙ length-map (variant_rows v n rows) tag_in ∙ length-map rows (variant_row v n))

pub returns-clause-rows : goal.returns-clause-rows
returns-clause-rows c =
    let v = c.args.variants.now in let n = c.args.nullability in let tags = c.args.tags.now in
    let w = valid_of c.in_ok-validity.validity in
    let valid = subst (λ (ts : List (Option ℕ)). IsValidityOf n (map id_row ts) w) (sym c.requires.tags) (ids_valid v c.args.cells.now c.requires.of_kind n w c.in_ok-validity.ensures) in
    ap (λ (a : Column). a.rows) c.record_column.ensures
    ∙ shown n (primitive_kind U8) (map id_row tags) (map bytes c.in_ok-id_records.field-0) w valid c.in_ok-id_records.ensures
    ∙ subst (λ (ts : List (Option ℕ)). map (shown_as (primitive_type U8 n)) (map id_row ts) ≡ map id_row ts) (sym c.requires.tags) (ids_shown v c.args.cells.now c.requires.of_kind n c.ids.ensures.valid)
