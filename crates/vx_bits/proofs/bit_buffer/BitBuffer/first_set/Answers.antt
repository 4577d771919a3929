use Rattle.std.proofs.Common.{◌*◌, arith}
use Rattle.vx_bits.proofs.SetBits.{clear_behind, clear_none, first_here, first_none}
use Rattle.vx_bits.proofs.bit_buffer.BitBuffer.first_set.Goals as goal

pub loop-i-init : goal.loop-i-init
loop-i-init c = clear_none c.args.self.now.bits 0 (64 * 0) (omega arith)

pub returns-then-word-ne0 : goal.returns-then-word-ne0
returns-then-word-ne0 c = first_here c.args.self.now.bits c.loop-i.i c.word-word.result c.word-word.ensures c.if-word-ne0.true c.loop-i.invariant

pub loop-i-preserved : goal.loop-i-preserved
loop-i-preserved c = clear_behind c.args.self.now.bits c.loop-i.i c.word-word.result c.word-word.ensures (omega (arith, c.if-word-ne0.false)) c.loop-i.invariant

pub returns : goal.returns
returns c = first_none c.args.self.now.bits c.loop-i.i (omega arith) c.loop-i.invariant
