use Rattle.std.proofs.Common.{◌≡◌, ◌+◌, ◌*◌, ◌-◌, ◌/◌, ◌%◌, ◌^◌, bit_or, ap, ◌∙◌, arith}
use Rattle.vx_bits.specs.BitBuffer.{bits_of}
use Rattle.vx_bits.proofs.ByteWords.{shifted_bits}
use Rattle.vx_bits.proofs.words.word_from.Goals as goal

pub returns-then-shift-eq0 : goal.returns-then-shift-eq0
returns-then-shift-eq0 c =
    let there : 8 * c.args.start ≡ 8 * c.args.start + c.args.shift = omega arith in
    c.eight_bytes-low.ensures.bits ∙ ap (λ j. bits_of c.args.bytes.now j 64) there

pub returns : goal.returns
returns c =
    let s = c.args.shift in
    shifted_bits c.args.bytes.now c.args.start s c.eight_bytes-low.result _ (omega arith) c.requires.below (omega arith) c.eight_bytes-low.ensures.bits
    (ap (λ b. bit_or (c.eight_bytes-low.result / 2 ^ s) (b * 2 ^ (64 - s) % 2 ^ 64)) c.from.ensures)
