-- A row is put by way of a block.
use Rattle.std.proofs.Common.{◌+◌, ◌*◌, ◌-◌, ◌∙◌, arith}
use Rattle.vx_chunk_plan.proofs.RowPuts.{rows_put}
use Rattle.vx_chunk_plan.proofs.copies.put_row.Goals as goal

pub returns : goal.returns
returns g c =
    let w = g.row.W in
    let j = c.args.j in
    rows_put w j 1 (j * w + w - j * w) c.args.row.now c.copy_from_slice-2.new.self c.args.out.now c.requires.some (omega (arith, c.requires.whole)) (c.copy_from_slice-2.ensures.after ∙ c.copy_from_slice.ensures.after) (omega arith) c.requires.room
