use Rattle.std.proofs.Common.{length, sym, ap, ◌∙◌}
use Rattle.vx_words.proofs.BitWords.{length-bits_at}
use Rattle.vx_words.proofs.bits.Bits.len.Goals as goal

pub returns : goal.returns
returns c =
    let b = c.self.inside in
    sym (length-bits_at b.words.now b.offset b.len c.self.invariant) ∙ ap length c.self.view_is
