use Rattle.std.proofs.Common.{arith}
use Rattle.vx_filter.proofs.Blocks.{block_cut}
use Rattle.vx_chunked.proofs.step.grow.Goals as goal

pub returns-then-capacity-filled-ge16-clause-items : goal.returns-then-capacity-filled-ge16-clause-items
returns-then-capacity-filled-ge16-clause-items g c =
    block_cut c.args.out.now.items _ _ c.args.items.now _ c.args.count 16 (omega arith) c.append.ensures.items c.truncate.ensures.items (omega (arith, c.args.out.now.ok.0, c.len-filled.ensures))
