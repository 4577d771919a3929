-- A row that is there is its view's text, and a list's validity has its rows.
use Rattle.std.proofs.Common.{◌<◌, arith, length, subst, sym, ap, ◌∙◌}
use Rattle.vx_model.specs.Valid.{Valid, is_present, valid_size}
use Rattle.vx_model.proofs.ListRows.{length-lists}
use Rattle.vx_column.specs.Cell.{HasRow}
use Rattle.vx_model.specs.Column.{Column}
use Rattle.vx_column.specs.Lists.{spans_of}
use Rattle.vx_column.specs.Validity.{valid_of}
use Rattle.vx_column.specs.declared.validity.Validity.{Validity}
use Rattle.vx_column.proofs.BitRows.{bits_long}
use Rattle.vx_column.proofs.Cells.{has_row}
use Rattle.vx_model.proofs.Texts.{rows-views, shown-views}
use Rattle.vx_model.proofs.StructSteps.{rows-struct, shown-struct}
use Rattle.std.proofs.Common.{◌≡◌, Some, None, get_or, ap₂}
use Rattle.vx_types.specs.RowValue.{null, tagged}
use Rattle.vx_types.specs.Nullability.{is_nullable}
use Rattle.vx_model.specs.Union.{UnionParts, IsPlace, place_at}
use Rattle.vx_model.proofs.Across.{shallow-get}
use Rattle.vx_model.proofs.UnionSteps.{found-union, hidden-union, index-below, place-union, rows-union, shown-union, within-union}
use Rattle.vx_column.proofs.Tags.{type-variant}
use Rattle.vx_column.proofs.UnionCells.{many-by, place-by, row-by, tag-by}
use Rattle.vx_column.proofs.+cell.Goals as goal

pub varbinview::VarBinViewArrayReadRow::cell_at-returns-then-is_valid_at-clause-row :
    goal.varbinview::VarBinViewArrayReadRow::cell_at-returns-then-is_valid_at-clause-row
varbinview::VarBinViewArrayReadRow::cell_at-returns-then-is_valid_at-clause-row t c =
    let p = c.args.self.now in let valid = c.views.ensures.valid in
    let there = ap (λ v. is_present v c.args.i) (sym c.validity.ensures.value) ∙ sym c.is_valid_at.ensures ∙ c.if-is_valid_at.true in
    shown-views p c.args.i c.text_at.result.now valid (omega (arith, c.requires, rows-views p valid)) there c.text_at.ensures

pub lists::Lists::cell_at-is_valid_at-requires : goal.lists::Lists::cell_at-is_valid_at-requires
lists::Lists::cell_at-is_valid_at-requires t c =
    let p = spans_of c.args.self in let v = c.validity-validity.ensures in (
      omega (arith, ap valid_size v.value),
      subst (λ (x : Valid). HasRow x c.args.i) (sym v.value)
          (has_row p.valid (length p.spans) c.args.i v.fitting (omega (arith, c.requires, length-lists p v.fitting))),
    )

pub validity::Validity::is_valid_at-value-requires :
    goal.validity::Validity::is_valid_at-value-requires
validity::Validity::is_valid_at-value-requires t c =
    let row : c.args.i < length c.in-Array.array.rows = subst (λ (v : Validity). HasRow (valid_of v) c.args.i) c.in-Array.is c.requires in
    omega (arith, row, ap (λ (k : Column). length k.rows) c.deref.ensures, bits_long _ _ c.in-Some.ensures.rows)

pub validity::Validity::is_valid_at-cell_at-requires :
    goal.validity::Validity::is_valid_at-cell_at-requires
validity::Validity::is_valid_at-cell_at-requires t c =
    let same = c.deref-in-None.ensures in
    let row : c.args.i < length c.in-Array.array.rows = subst (λ (v : Validity). HasRow (valid_of v) c.args.i) c.in-Array.is c.requires in (
      omega (arith, ap (λ (v : Validity). valid_size (valid_of v)) c.in-Array.is, ap (λ (k : Column). k.depth) same),
      omega (arith, row, ap (λ (k : Column). length k.rows) same),
    )

pub struct_::StructArrayReadRow::cell_at-returns-then-is_valid_at-clause-row :
    goal.struct_::StructArrayReadRow::cell_at-returns-then-is_valid_at-clause-row
struct_::StructArrayReadRow::cell_at-returns-then-is_valid_at-clause-row t c =
    let p = c.args.self.now in let h = c.validity-validity.ensures.valid in
    let there = ap (λ v. is_present v c.args.i) (sym c.validity-validity.ensures.value) ∙ sym c.is_valid_at.ensures ∙ c.if-is_valid_at.true in
    rw c.fields-columns.ensures.value (shown-struct p h c.args.i (omega (arith, c.requires, rows-struct p h)) there)

-- ---- unions

pub union_::UnionArrayReadRow::cell_at-returns-in_default-clause-row :
    goal.union_::UnionArrayReadRow::cell_at-returns-in_default-clause-row
union_::UnionArrayReadRow::cell_at-returns-in_default-clause-row t c =
    let p = c.args.self.now in
    let same = c.deref.ensures ∙ c.type_ids.ensures.value in
    hidden-union p c.type_ids.ensures.valid c.args.i (tag-by p c.args.i None same c.tag_at.ensures.value c.in_default.is)

pub union_::UnionArrayReadRow::cell_at-returns-in_default-clause-of_type :
    goal.union_::UnionArrayReadRow::cell_at-returns-in_default-clause-of_type
union_::UnionArrayReadRow::cell_at-returns-in_default-clause-of_type t c =
    let ids : c.deref.result.now ≡ c.args.self.now.ids = c.deref.ensures ∙ c.type_ids.ensures.value in
    ap (λ (x : Column). is_nullable x.dtype.nullability) (sym ids) ∙ c.tag_at.ensures.nullable c.in_default.is

pub union_::UnionArrayReadRow::cell_at-unreachable-requires :
    goal.union_::UnionArrayReadRow::cell_at-unreachable-requires
union_::UnionArrayReadRow::cell_at-unreachable-requires t c =
    let p = c.args.self.now in let h = c.type_ids.ensures.valid in let i = c.args.i in let id = c.in-Some.id in
    let tag = tag-by p i (Some id) (c.deref.ensures ∙ c.type_ids.ensures.value) c.tag_at.ensures.value c.in-Some.is in
    let none = place-by p id None (c.deref-2.ensures ∙ c.variants.ensures.value) c.ids.ensures.value c.variant_of.ensures c.in-None.is in
    let no = found-union p h i id (omega (arith, c.requires, rows-union p h)) tag none in
    cc

pub union_::UnionArrayReadRow::cell_at-get-column-requires :
    goal.union_::UnionArrayReadRow::cell_at-get-column-requires
union_::UnionArrayReadRow::cell_at-get-column-requires t c =
    let p = c.args.self.now in let id = c.in-Some.id in let k = c.in-Some-variant_of.k in
    let same = c.deref-2.ensures ∙ c.variants.ensures.value in
    let many = many-by p c.type_ids.ensures.valid same c.ids.ensures.valid in
    let is = place-by p id (Some k) same c.ids.ensures.value c.variant_of.ensures c.in-Some-variant_of.is in
    omega (arith, index-below p.variants.ids id k is, many, ap length c.children.ensures.value)

pub union_::UnionArrayReadRow::cell_at-place_at-row-requires-clause-within :
    goal.union_::UnionArrayReadRow::cell_at-place_at-row-requires-clause-within
union_::UnionArrayReadRow::cell_at-place_at-row-requires-clause-within t c =
    let p = c.args.self.now in let i = c.args.i in
    let id = c.in-Some.id in let k = c.in-Some-variant_of.k in let x = c.get-column.result.now in
    let r = row-by p i id k x c.type_ids.ensures.valid c.requires (c.deref.ensures ∙ c.type_ids.ensures.value) c.tag_at.ensures.value c.in-Some.is (c.deref-2.ensures ∙ c.variants.ensures.value) c.ids.ensures.valid c.ids.ensures.value c.variant_of.ensures c.in-Some-variant_of.is c.children.ensures.value c.get-column.ensures in
    let many_rows : c.len.result ≡ length (get_or p.columns k x).rows = c.len.ensures ∙ ap (λ (y : Column). length y.rows) (c.deref-in-Some-variant_of.ensures ∙ sym r.at) in
    let offsets : c.self.inside.offsets ≡ p.offsets = ap (λ (q : UnionParts). q.offsets) c.self.view_is in
    subst (λ o. IsPlace o i c.len.result) (sym offsets) (subst (λ n. IsPlace p.offsets i n) (sym many_rows) (place-union p r.valid i id k x r.row r.many r.tag r.is))

pub union_::UnionArrayReadRow::cell_at-returns-clause-row :
    goal.union_::UnionArrayReadRow::cell_at-returns-clause-row
union_::UnionArrayReadRow::cell_at-returns-clause-row t c =
    let p = c.args.self.now in let i = c.args.i in
    let id = c.in-Some.id in let k = c.in-Some-variant_of.k in let x = c.get-column.result.now in
    let r = row-by p i id k x c.type_ids.ensures.valid c.requires (c.deref.ensures ∙ c.type_ids.ensures.value) c.tag_at.ensures.value c.in-Some.is (c.deref-2.ensures ∙ c.variants.ensures.value) c.ids.ensures.valid c.ids.ensures.value c.variant_of.ensures c.in-Some-variant_of.is c.children.ensures.value c.get-column.ensures in
    let place : c.place_at-row.result ≡ place_at p.offsets i = c.place_at-row.ensures ∙ ap (λ (q : UnionParts). place_at q.offsets i) c.self.view_is in
    ap₂ (λ (y : Column) n. tagged id (get_or y.rows n null)) (c.deref-in-Some-variant_of-2.ensures ∙ sym r.at) place
    ∙ shown-union p r.valid i id k x r.row r.many r.tag r.is

pub union_::UnionArrayReadRow::cell_at-returns-clause-of_type :
    goal.union_::UnionArrayReadRow::cell_at-returns-clause-of_type
union_::UnionArrayReadRow::cell_at-returns-clause-of_type t c =
    let p = c.args.self.now in let i = c.args.i in
    let id = c.in-Some.id in let k = c.in-Some-variant_of.k in let x = c.get-column.result.now in
    let r = row-by p i id k x c.type_ids.ensures.valid c.requires (c.deref.ensures ∙ c.type_ids.ensures.value) c.tag_at.ensures.value c.in-Some.is (c.deref-2.ensures ∙ c.variants.ensures.value) c.ids.ensures.valid c.ids.ensures.value c.variant_of.ensures c.in-Some-variant_of.is c.children.ensures.value c.get-column.ensures in
    let place : c.place_at-row.result ≡ place_at p.offsets i = c.place_at-row.ensures ∙ ap (λ (q : UnionParts). place_at q.offsets i) c.self.view_is in
    let column = c.deref-in-Some-variant_of-2.ensures ∙ sym r.at in
    record {
      kind = type-variant p id k x r.valid r.many r.is ∙ ap (λ (y : Column). Some y.dtype) (sym column);
      within = omega (arith, place, within-union p r.valid i id k x r.row r.many r.tag r.is, ap (λ (y : Column). length y.rows) column);
    }

pub union_::UnionArrayReadRow::cell_at-returns-clause-nested :
    goal.union_::UnionArrayReadRow::cell_at-returns-clause-nested
union_::UnionArrayReadRow::cell_at-returns-clause-nested t c =
    let p = c.args.self.now in let i = c.args.i in
    let id = c.in-Some.id in let k = c.in-Some-variant_of.k in let x = c.get-column.result.now in
    let r = row-by p i id k x c.type_ids.ensures.valid c.requires (c.deref.ensures ∙ c.type_ids.ensures.value) c.tag_at.ensures.value c.in-Some.is (c.deref-2.ensures ∙ c.variants.ensures.value) c.ids.ensures.valid c.ids.ensures.value c.variant_of.ensures c.in-Some-variant_of.is c.children.ensures.value c.get-column.ensures in
    let column = c.deref-in-Some-variant_of-2.ensures ∙ sym r.at in
    omega (arith, shallow-get p.columns k x (omega (arith, index-below p.variants.ids id k r.is, r.many)), ap (λ (y : Column). y.depth) column)
