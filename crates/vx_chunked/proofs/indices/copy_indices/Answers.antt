use Rattle.std.proofs.Common.{◌+◌, ◌-◌, arith}
use Rattle.vx_chunked.proofs.ValuesAt.{put_placed}
use Rattle.vx_chunked.proofs.indices.copy_indices.Goals as goal

pub loop-k-preserved : goal.loop-k-preserved
loop-k-preserved g c =
    let front = c.args.front.now in
    let k = c.loop-k.k in
    let here = front.inside k 0 (omega arith) in
    put_placed c.loop-k.dst c.args.values.now (λ i. front.offset + i - front.base) front.indices.now k c.index-values-offset.result c.loop-k.invariant (omega arith) (omega arith) (omega (arith, here.0, here.1)) c.index-values-offset.is
