-- The sliced parts make the sliced column.
use Rattle.std.proofs.Common.{◌≡◌, ◌≤◌, length, true, rules, ap, ap₂, ◌∙◌, slice_range, arith}
use Rattle.vx_bits.specs.BitBuffer.{PlacedBits}
use Rattle.vx_model.specs.Valid.{cover_by, is_constant_form}
use Rattle.vx_model.specs.Bool.{stored_bits, bool_column, bool_with}
use Rattle.vx_model.proofs.Layouts.{length-bool, items-bits, fits-bits}
use Rattle.vx_model.proofs.ShownRows.{is_left-slice, is_as_plain}
use Rattle.vx_model.proofs.Steps.{is_slice-bool}
use Rattle.vx_column.specs.Validity.{valid_of}
use Rattle.vx_plain.proofs.slicing.slice_bools.Goals as goal

pub returns-clause-slice : goal.returns-clause-slice
returns-clause-slice c =
    let p = c.args.array.now in let s = c.args.start in let e = c.args.end in
    let sound = c.validity.ensures.valid in
    let k : is_constant_form (cover_by p.valid) ≡ true = search rules in
    let v : valid_of c.share.result ≡ p.valid = ap valid_of c.share.ensures ∙ c.validity-2.ensures.value in
    let inside : e ≤ length (stored_bits p).items = omega (arith, length-bool p sound, items-bits p, c.requires.within) in
    let left = is_left-slice p.valid (length (stored_bits p).items) s e k c.requires.ordered inside (fits-bits p sound) in
    let cut = c.slice-bits.ensures.bits ∙ ap (λ (b : PlacedBits). slice_range b.bits s e) c.bits.ensures.bits in
    let offset = c.slice-bits.result.offset in
    let whole = c.into_array.ensures ∙ ap bool_column (c.of.ensures ∙ ap₂ (λ bits valid. bool_with bits offset valid) cut v) in
    rw whole (k, is_slice-bool p p.valid offset s e sound c.requires.ordered inside left (is_as_plain p.valid))
