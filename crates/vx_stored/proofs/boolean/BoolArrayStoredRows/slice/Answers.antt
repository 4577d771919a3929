-- The sliced parts make the sliced column.
use Rattle.std.proofs.Common.{slice_range, ap, ◌∙◌}
use Rattle.vx_bits.specs.BitBuffer.{PlacedBits}
use Rattle.vx_model.specs.Bool.{bool_column, bool_with}
use Rattle.vx_model.proofs.Steps.{is_slice-bool}
use Rattle.vx_column.specs.Validity.{valid_of}
use Rattle.vx_stored.proofs.boolean.BoolArrayStoredRows.slice.Goals as goal

pub returns : goal.returns
returns c =
    let p = c.args.self.now in let s = c.args.start in let e = c.args.end in let v = valid_of c.args.valid in
    let cut = c.slice.ensures.bits ∙ ap (λ (b : PlacedBits). slice_range b.bits s e) c.bits.ensures.bits in
    let offset = c.slice.result.offset in
    rw (c.into_array.ensures ∙ ap bool_column (c.of.ensures ∙ ap (λ bits. bool_with bits offset v) cut))
    (is_slice-bool p v offset s e c.bits.ensures.valid c.requires.ordered c.requires.within c.requires.left c.requires.plain)
