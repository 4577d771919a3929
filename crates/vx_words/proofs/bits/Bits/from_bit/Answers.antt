use Rattle.std.proofs.Common.{◌+◌, get_or, false, length, sym, ap, ◌∙◌, arith}
use Rattle.vx_words.proofs.BitWords.{bit_there, length-bits_at}
use Rattle.vx_words.proofs.bits.Bits.from_bit.Goals as goal

pub returns : goal.returns
returns c =
    let b = c.self.inside in
    let words = b.words.now in
    let place = b.offset + c.from.result in
    let long = sym (ap length c.self.view_is) ∙ length-bits_at words b.offset b.len c.self.invariant in
    bit_there words b.offset b.len c.args.index place c.self.invariant (omega (arith, c.requires, long)) (ap (λ n. b.offset + n) c.from.ensures)
    ∙ ap (λ l. get_or l c.args.index false) c.self.view_is
