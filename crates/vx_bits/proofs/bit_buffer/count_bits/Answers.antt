use Rattle.std.proofs.Common.{◌≡◌, ◌+◌, ◌-◌, ◌/◌, ◌%◌, get_or, ap, ◌∙◌, arith}
use Rattle.std.proofs.lemmas.Nat.Bits.{shr_and_one, bit_at-lt}
use Rattle.vx_bits.specs.BitBuffer.{bits_of, true_count_of}
use Rattle.vx_bits.proofs.BitLists.{true_count_of_one, true_count_joined}
use Rattle.vx_bits.proofs.bit_buffer.count_bits.Goals as goal

pub loop-place-preserved : goal.loop-place-preserved
loop-place-preserved c =
    let bytes = c.args.bytes.now in
    let start = c.args.start in
    let j = c.loop-place.place in
    let byte = get_or bytes (j / 8) 0 in
    let next : j + 1 - j ≡ 1 = omega arith in
    let one = ap (λ n. true_count_of (bits_of bytes j n)) next ∙ true_count_of_one bytes j in
    let joined = true_count_joined bytes start j (j + 1) c.loop-place.auto.place (omega arith) in
    let bit = shr_and_one byte (j % 8) in
    record {
      counted = omega (arith, bit, one, joined, c.loop-place.invariant.counted);
      small = omega (arith, bit, bit_at-lt byte (j % 8), c.loop-place.invariant.small, c.loop-place.auto.place);
    }
