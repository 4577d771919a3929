-- What is kept of the parts makes what is kept of the column.
use Rattle.std.proofs.Common.{◌≡◌, length, refl, ap, ◌∙◌, sym}
use Rattle.std.specs.List.{items_where_true}
use Rattle.vx_bits.specs.BitBuffer.{PlacedBits}
use Rattle.vx_model.specs.Valid.{is_fitting, nullability_by}
use Rattle.vx_model.specs.Bool.{bool_column, bool_with, stored_bits}
use Rattle.vx_model.proofs.Layouts.{fits-bits, items-bits}
use Rattle.vx_model.proofs.Steps.{fitting-filter, is_filter-bool}
use Rattle.vx_column.specs.Validity.{valid_of}
use Rattle.vx_stored.proofs.boolean.BoolArrayStoredRows.filter.Goals as goal
use Rattle.vx_mask.proofs.RankedItems.{length-items_where_true}

pub of-requires : goal.of-requires
of-requires c =
    let p = c.args.self.now in let v = valid_of c.args.valid in let mask = c.args.mask.now.bits.bits in
    let source = c.bits.result.now in
    let long : length mask ≡ length source.bits =
    c.requires.long ∙ items-bits p ∙ ap (λ (b : PlacedBits). length b.bits) (sym c.bits.ensures.bits) in
    ap (λ (b : PlacedBits). is_fitting v (length b.bits)) c.in_ok-bits.ensures
    ∙ ap (is_fitting v) (length-items_where_true mask source.bits long)
    ∙ fitting-filter (stored_bits p).items p.valid v (nullability_by p.valid) _ refl (fits-bits p c.bits.ensures.valid) mask c.requires.long c.requires.left

pub returns : goal.returns
returns c =
    let p = c.args.self.now in let v = valid_of c.args.valid in let mask = c.args.mask.now.bits.bits in
    let kept : c.in_ok-bits.bits ≡ record { bits = items_where_true mask p.bits.bits; offset = 0 } =
    c.in_ok-bits.ensures ∙ ap (λ (b : PlacedBits). let k : PlacedBits = record { bits = items_where_true mask b.bits; offset = 0 } in k) c.bits.ensures.bits in
    rw (c.into_array.ensures ∙ ap bool_column (c.of.ensures ∙ ap (λ (b : PlacedBits). bool_with b.bits b.offset v) kept))
    (is_filter-bool p v 0 mask c.bits.ensures.valid c.requires.long c.requires.left c.requires.plain)
