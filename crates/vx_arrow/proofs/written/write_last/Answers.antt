-- All bits are written.
use Rattle.std.proofs.Common.{arith}
use Rattle.vx_arrow.proofs.Writes.{all_marked}
use Rattle.vx_arrow.proofs.written.write_last.Goals as goal

pub returns : goal.returns
returns c = all_marked c.args.picks.now.picks c.args.valid.now c.loop-k.valid c.loop-k.k (omega (arith, c.loop-k-test.false, c.len-k-end.ensures, c.loop-k.auto.k-end)) c.loop-k.invariant
