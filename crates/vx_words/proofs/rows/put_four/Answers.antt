use Rattle.std.proofs.Common.{arith}
use Rattle.vx_words.proofs.PutRows.{rows_joined, rows_within}
use Rattle.vx_words.proofs.rows.put_four.Goals as goal

pub put_two-requires-clause-to : goal.put_two-requires-clause-to
put_two-requires-clause-to g c =
    omega (arith, rows_within c.args.src.now c.args.from c.args.bits 2 c.args.dst.now _ c.args.to _ c.put_two-next.ensures, c.requires.to)

pub returns : goal.returns
returns g c = rows_joined c.args.src.now c.args.from c.args.bits 2 2 c.args.dst.now _ _ c.args.to _ _ c.put_two-next.ensures c.put_two.ensures
