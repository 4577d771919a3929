-- Rows are put at once.
use Rattle.std.proofs.Common.{◌+◌, ◌*◌, ◌-◌, length, arith}
use Rattle.vx_chunk_plan.proofs.RowPuts.{rows_put}
use Rattle.vx_chunk_plan.proofs.copies.put_rows.Goals as goal

pub returns : goal.returns
returns c =
    let w = c.args.width in
    let j = c.args.j in
    rows_put w j c.args.count (j * w + length c.args.rows.now - j * w) c.args.rows.now c.copy_from_slice.new.self c.args.out.now c.requires.some c.requires.whole c.copy_from_slice.ensures.after (omega (arith, c.requires.whole)) c.requires.room
