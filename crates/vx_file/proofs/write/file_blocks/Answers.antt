use Rattle.std.proofs.Common.{◌-◌, ◌*◌, length, take, drop, ◌∙◌}
use Rattle.vx_file.proofs.FileBlocks.{block_more, rows_cut}
use Rattle.vx_file.proofs.write.file_blocks.Goals as goal

pub loop-k-preserved : goal.loop-k-preserved
loop-k-preserved c =
    let values = c.args.values.now in
    let k = c.loop-k.k in
    let end = c.min-end.result in
    c.in_ok-push-2.ensures.ok
    ∙ block_more (record { ptype = c.args.ptype; len = length values }) values k c.loop-k.blocks c.deref.result.now (take (end - 1024 * k) (drop (1024 * k) values)) c.loop-k.invariant
    (c.deref.ensures.value ∙ c.in_ok-block.ensures.bytes) (rows_cut values k end c.min-end.ensures)
