use Rattle.std.proofs.Common.{arith}
use Rattle.vx_words.proofs.BitWords.{moved_is}
use Rattle.vx_words.proofs.bits.moved_down.Goals as goal

pub returns-else-shift-eq0 : goal.returns-else-shift-eq0
returns-else-shift-eq0 c = moved_is c.args.low c.args.high c.args.shift c.ranges.low.fits (omega (arith, c.if-shift-eq0.false)) c.requires
