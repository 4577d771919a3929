use Rattle.std.proofs.Common.{arith}
use Rattle.vx_words.proofs.BitWords.{closed, closed_more}
use Rattle.vx_words.proofs.bits.Packed.close.Goals as goal

pub returns-then-self-eq0 : goal.returns-then-self-eq0
returns-then-self-eq0 c =
    let s = c.args.self in
    λ bits packed. closed bits c.args.dst.now s.full s.next s.held packed c.if-self-eq0.true

pub returns : goal.returns
returns c =
    let s = c.args.self in
    λ bits packed. closed_more bits c.args.dst.now s.full s.next s.held packed (omega (arith, c.if-self-eq0.false)) c.requires.open (omega (arith, c.requires.room, c.if-self-eq0.false))
