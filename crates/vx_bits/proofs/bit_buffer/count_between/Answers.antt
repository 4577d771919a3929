use Rattle.std.proofs.Common.{◌≡◌, ◌+◌, ◌-◌, ◌*◌, ◌/◌, ap, arith}
use Rattle.vx_bits.specs.BitBuffer.{bits_of, true_count_of}
use Rattle.vx_bits.proofs.BitLists.{true_count_joined}
use Rattle.vx_bits.proofs.bit_buffer.count_between.Goals as goal

pub returns : goal.returns
returns c =
    let bytes = c.args.bytes.now in
    let first = c.div_ceil-first.result in
    let last = c.args.end / 8 in
    let words = (last - first) / 8 in
    let middle = first + words * 8 in
    let whole : 8 * middle - 8 * first ≡ 64 * words = omega arith in
    let front = true_count_joined bytes c.args.start (8 * first) c.args.end (omega (arith, c.div_ceil-first.ensures)) (omega (arith, c.div_ceil-first.ensures)) in
    let between = true_count_joined bytes (8 * first) (8 * middle) c.args.end (omega arith) (omega arith) in
    let back = true_count_joined bytes (8 * middle) (8 * last) c.args.end (omega arith) (omega arith) in
    omega (arith, front, between, back, ap (λ n. true_count_of (bits_of bytes (8 * first) n)) whole, c.count_bits-2.ensures.value, c.count_words.ensures.value, c.count_bytes.ensures.value, c.count_bits-3.ensures.value)
