use Rattle.std.proofs.Common.{arith}
use Rattle.vx_chunked.proofs.Spans.{put_more}
use Rattle.vx_chunked.proofs.runs.put_range.Goals as goal

pub loop-k-preserved : goal.loop-k-preserved
loop-k-preserved c = put_more c.loop-k.places c.args.places.now c.args.at c.args.first c.loop-k.k c.loop-k.invariant (omega arith)
