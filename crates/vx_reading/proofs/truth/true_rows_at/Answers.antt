-- One stretch more.
use Rattle.std.proofs.Common.{◌≡◌, ◌+◌, take, length, bit_and, ap, sym, ◌∙◌, arith}
use Rattle.std.proofs.lemmas.List.{length-take, take_all}
use Rattle.std.proofs.lemmas.List.Sums.{count_by-le-length}
use Rattle.vx_bits.specs.BitBuffer.{true_count_of}
use Rattle.vx_column.specs.Truth.{true_bits}
use Rattle.vx_reading.proofs.Stretches.{count-swapped, more-counted, stretch-both}
use Rattle.vx_column.proofs.TruthBits.{both}
use Rattle.vx_reading.proofs.TruthBits.{length-both, length-true_bits}
use Rattle.vx_reading.proofs.truth.true_rows_at.Goals as goal

pub overflow_add-count : goal.overflow_add-count
overflow_add-count c =
    let bits = true_bits c.args.column.now in let mask = c.args.bits.now.bits in let next = c.true_from-next.result in
    let long : length bits ≡ length mask = length-true_bits c.args.column.now ∙ sym c.requires in
    let kept = stretch-both bits mask c.stretch.at next.word c.word_from.result next.len long c.true_from-next.ensures c.word_from.ensures in
    let more = take (c.stretch.at + next.len) (both bits mask) in
    omega (arith, more-counted (both bits mask) c.stretch.at (bit_and next.word c.word_from.result) next.len kept, count_by-le-length (λ b. b) more, length-take (c.stretch.at + next.len) (both bits mask), length-both bits mask long, long, length-true_bits c.args.column.now)

pub stretch-preserved : goal.stretch-preserved
stretch-preserved c =
    let bits = true_bits c.args.column.now in let mask = c.args.bits.now.bits in let next = c.true_from-next.result in
    let long : length bits ≡ length mask = length-true_bits c.args.column.now ∙ sym c.requires in
    let kept = stretch-both bits mask c.stretch.at next.word c.word_from.result next.len long c.true_from-next.ensures c.word_from.ensures in
    record {
      within = c.true_from-next.ensures.within;
      counted = omega (arith, more-counted (both bits mask) c.stretch.at (bit_and next.word c.word_from.result) next.len kept);
    }

pub returns : goal.returns
returns c =
    let bits = true_bits c.args.column.now in let mask = c.args.bits.now.bits in
    let long : length bits ≡ length mask = length-true_bits c.args.column.now ∙ sym c.requires in
    c.stretch.invariant.counted
    ∙ ap true_count_of (take_all c.stretch.at (both bits mask) (omega (arith, length-both bits mask long, long, length-true_bits c.args.column.now)))
    ∙ sym (count-swapped mask bits)
