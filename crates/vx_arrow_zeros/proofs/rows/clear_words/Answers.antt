-- Sixty-four rows more.
use Rattle.std.proofs.Common.{◌+◌, ◌*◌, eqb, arith}
use Rattle.std.specs.Int.{bit_at}
use Rattle.vx_arrow_image.specs.Image.{bit_of}
use Rattle.vx_arrow_zeros.proofs.RowLemmas.{joined}
use Rattle.vx_arrow_zeros.proofs.WordBits.{word_bit}
use Rattle.vx_arrow_zeros.proofs.rows.clear_words.Goals as goal

pub loop-i-preserved : goal.loop-i-preserved
loop-i-preserved c =
    let i = c.loop-i.i in
    let w = c.args.width in
    joined (bit_of c.args.valid.now) (λ k. eqb (bit_at c.eight_bytes.result k) 1) 0 (64 * i) 64 w (64 * i * w) (64 * (i + 1)) c.args.values.now c.loop-i.values c.clear_word.new.values
    c.loop-i.invariant c.clear_word.ensures (omega arith) (omega arith)
    (λ k h. word_bit c.args.valid.now (8 * (8 * i)) c.eight_bytes.result k (64 * i) c.eight_bytes.ensures.bits (omega arith) h)
