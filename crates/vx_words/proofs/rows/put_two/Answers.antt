use Rattle.std.proofs.Common.{arith}
use Rattle.vx_words.proofs.PutRows.{rows_joined, rows_within}
use Rattle.vx_words.proofs.rows.put_two.Goals as goal

pub put_row-requires-clause-to : goal.put_row-requires-clause-to
put_row-requires-clause-to g c =
    omega (arith, rows_within c.args.src.now c.args.from c.args.bits 1 c.args.dst.now _ c.args.to _ c.put_row-next.ensures, c.requires.to)

pub returns : goal.returns
returns g c = rows_joined c.args.src.now c.args.from c.args.bits 1 1 c.args.dst.now _ _ c.args.to _ _ c.put_row-next.ensures c.put_row.ensures
