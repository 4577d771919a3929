use Rattle.std.proofs.Common.{arith}
use Rattle.vx_words.proofs.BitWords.{packed_full, packed_short}
use Rattle.vx_words.proofs.bits.Packed.append.Goals as goal

pub returns-then-held-lt64-clause-packed : goal.returns-then-held-lt64-clause-packed
returns-then-held-lt64-clause-packed c =
    let s = c.args.self in
    λ bits more packed is_word is_n. packed_short bits more c.args.dst.now s.full s.next s.held c.args.word c.args.n c.low_word-low.result packed is_word is_n c.if-held-lt64.true c.low_word-low.ensures

pub returns-clause-packed : goal.returns-clause-packed
returns-clause-packed c =
    let s = c.args.self in
    λ bits more packed is_word is_n. packed_full bits more c.args.dst.now s.full s.next s.held c.args.word c.args.n c.low_word-low.result c.past_word-next.result packed is_word is_n c.requires.open c.requires.short (omega (arith, c.if-held-lt64.false)) (omega (arith, c.requires.room, c.if-held-lt64.false)) c.low_word-low.ensures c.past_word-next.ensures
