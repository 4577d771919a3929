-- A stretch of a column from those of what it is made of.
use Rattle.std.proofs.Common.{◌+◌, ◌≤◌, length, take, drop, ap, sym, subst, ◌∙◌, arith}
use Rattle.vx_bits.specs.BitBuffer.{number_of}
use Rattle.vx_mask.specs.Mask.{mask_bits}
use Rattle.vx_mask.specs.Positions.{rank_of}
use Rattle.vx_model.specs.Column.{Column}
use Rattle.vx_model.proofs.Layouts.{length-bool}
use Rattle.vx_model.proofs.LazyRows.{long-filter}
use Rattle.vx_column.specs.Truth.{true_bits}
use Rattle.vx_reading.specs.BoolRows.{IsStretch}
use Rattle.vx_column.specs.Validity.{valid_of}
use Rattle.vx_reading.proofs.Stretches.{no-row, part-below, stretch-all, stretch-all_invalid, stretch-by_column, stretch-filter}
use Rattle.vx_reading.proofs.TruthBits.{length-true_bits}
use Rattle.vx_reading.proofs.+truth.Goals as goal

pub layouts::bools_from-returns-in-AllInvalid :
    goal.layouts::bools_from-returns-in-AllInvalid
layouts::bools_from-returns-in-AllInvalid t c =
    let p = c.args.array.now in
    let long = length-bool p c.bits-bits.ensures.valid in
    let e = sym c.validity.ensures.value ∙ ap valid_of c.in-AllInvalid.is in
    stretch-all_invalid p c.args.start c.min-len.result e (omega (arith, long)) (omega (arith, ap (λ b. length b.bits) c.bits-bits.ensures.bits))

pub layouts::bools_from-returns-in-Array :
    goal.layouts::bools_from-returns-in-Array
layouts::bools_from-returns-in-Array t c =
    let p = c.args.array.now in let start = c.args.start in
    let next = c.true_from-there.result in
    let e = sym c.validity.ensures.value ∙ ap valid_of c.in-Array.is in
    let P : Column → Type 0 = λ k. IsStretch (true_bits k) start next.word next.len in
    let s = subst P c.deref.ensures c.true_from-there.ensures in
    let is = c.word_from.ensures ∙ ap (λ b. number_of (take next.len (drop start b.bits))) c.bits-bits.ensures.bits in
    stretch-by_column p c.in-Array.there start next.word c.word_from.result next.len c.bits-bits.ensures.valid e s is

pub layouts::kept_from-unreachable-requires :
    goal.layouts::kept_from-unreachable-requires
layouts::kept_from-unreachable-requires t c =
    no-row c.args.array.now c.in-AllFalse.field-0 c.args.start (sym (ap mask_bits c.mask-mask.ensures.value) ∙ ap mask_bits c.in-AllFalse.is) c.requires

pub layouts::kept_from-returns-in-AllTrue :
    goal.layouts::kept_from-returns-in-AllTrue
layouts::kept_from-returns-in-AllTrue t c =
    let p = c.args.array.now in let start = c.args.start in
    let all = c.true_from-all.result in
    let e = sym (ap mask_bits c.mask-mask.ensures.value) ∙ ap mask_bits c.in-AllTrue.is in
    let rank = c.rank-at.ensures.rank ∙ ap (λ m. rank_of m start) (ap mask_bits c.mask-mask.ensures.value) in
    let P : Column → Type 0 = λ k. IsStretch (true_bits k) c.rank-at.result all.word all.len in
    let s = subst P (c.deref.ensures ∙ c.child.ensures.value) c.true_from-all.ensures in
    stretch-all p c.in-AllTrue.field-0 start c.rank-at.result all.word all.len c.mask-mask.ensures.valid e c.requires rank s

pub layouts::kept_from-picked-requires :
    goal.layouts::kept_from-picked-requires
layouts::kept_from-picked-requires t c =
    let p = c.args.array.now in
    let at = c.rank-at.result in let all = c.true_from-all.result in
    let s = c.true_from-all.ensures in
    let bits = ap (λ b. b.bits) c.bits.ensures ∙ sym (sym (ap mask_bits c.mask-mask.ensures.value) ∙ ap mask_bits c.in-Values.is) in
    let is = c.word_from.ensures ∙ ap (λ l. number_of (take all.len (drop at l))) bits in
    let child = ap (λ k. length k.rows) (c.deref.ensures ∙ c.child.ensures.value) in
    let within : at + all.len ≤ length (mask_bits p.mask) = omega (arith, s.within, length-true_bits c.deref.result.now, child, long-filter p c.mask-mask.ensures.valid) in
    record {
      few = s.few;
      word = part-below (true_bits c.deref.result.now) at all.word all.len s.within s.spelled;
      picks = part-below (mask_bits p.mask) at c.word_from.result all.len within is;
    }

pub layouts::kept_from-returns-in-Values :
    goal.layouts::kept_from-returns-in-Values
layouts::kept_from-returns-in-Values t c =
    let p = c.args.array.now in let start = c.args.start in
    let at = c.rank-at.result in let all = c.true_from-all.result in let kept = c.picked.result in
    let rank = c.rank-at.ensures.rank ∙ ap (λ m. rank_of m start) (ap mask_bits c.mask-mask.ensures.value) in
    let P : Column → Type 0 = λ k. IsStretch (true_bits k) at all.word all.len in
    let s = subst P (c.deref.ensures ∙ c.child.ensures.value) c.true_from-all.ensures in
    let bits = ap (λ b. b.bits) c.bits.ensures ∙ sym (sym (ap mask_bits c.mask-mask.ensures.value) ∙ ap mask_bits c.in-Values.is) in
    let is = c.word_from.ensures ∙ ap (λ l. number_of (take all.len (drop at l))) bits in
    stretch-filter p start at all.word all.len c.word_from.result kept.word kept.len c.mask-mask.ensures.valid c.requires rank s is c.picked.ensures.word c.picked.ensures.len
