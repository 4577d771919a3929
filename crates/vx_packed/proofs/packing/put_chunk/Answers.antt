use Rattle.std.proofs.Common.{◌≡◌, ◌^◌, ◌-◌, ◌∷◌, ◌++◌, [], ap, ap₂, ◌∙◌, arith}
use Rattle.std.specs.Int.{to_le_bytes, w64}
use Rattle.vx_packed.specs.Chunk.{bytes_of, digits, field_bits, greatest}
use Rattle.vx_packed.proofs.Spellings.{chunk_spans, spell_joined}
use Rattle.vx_packed.proofs.packing.put_chunk.Goals as goal

pub overflow_sub-greatest_of : goal.overflow_sub-greatest_of
overflow_sub-greatest_of c =
    let s = chunk_spans 8 c.args.numbers.now (omega arith) c.requires in
    omega (arith, s.ordered, c.least_of-base.ensures, c.greatest_of.ensures)

pub overflow_cast-digits-2 : goal.overflow_cast-digits-2
overflow_cast-digits-2 c =
    let s = chunk_spans 8 c.args.numbers.now (omega arith) c.requires in
    let same = c.digits_of-digits.ensures ∙ ap₂ (λ g b. digits (g - b)) c.greatest_of.ensures c.least_of-base.ensures in
    omega (arith, s.short, same)

pub put_offsets-requires-clause-most : goal.put_offsets-requires-clause-most
put_offsets-requires-clause-most c =
    let s = chunk_spans 8 c.args.numbers.now (omega arith) c.requires in
    let same = c.digits_of-digits.ensures ∙ ap₂ (λ g b. digits (g - b)) c.greatest_of.ensures c.least_of-base.ensures in
    omega (arith, s.short, same)

pub put_offsets-requires-clause-digits : goal.put_offsets-requires-clause-digits
put_offsets-requires-clause-digits c =
    let s = chunk_spans 8 c.args.numbers.now (omega arith) c.requires in
    let same = c.digits_of-digits.ensures ∙ ap₂ (λ g b. digits (g - b)) c.greatest_of.ensures c.least_of-base.ensures in
    let power = ap (λ k. 2 ^ k) same in
    omega (arith, s.below, power, c.least_of-base.ensures)

pub returns : goal.returns
returns c =
    let xs = c.args.numbers.now in
    let base = c.least_of-base.result in
    let w = c.digits_of-digits.result in
    let width_is : w ≡ digits (greatest xs - base) = c.digits_of-digits.ensures ∙ ap (λ g. digits (g - base)) c.greatest_of.ensures in
    c.put_offsets.ensures
    ∙ ap (λ l. l ++ bytes_of (field_bits base w xs))
    (c.put_eight.ensures.items ∙ ap (λ l. l ++ to_le_bytes w64 base) (c.push_reserved.ensures.items ∙ ap (λ l. l ++ w ∷ []) c.reserve.ensures.items))
    ∙ spell_joined c.args.out.now.items xs base w c.least_of-base.ensures width_is
