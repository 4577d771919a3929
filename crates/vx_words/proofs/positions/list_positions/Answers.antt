use Rattle.std.proofs.Common.{arith}
use Rattle.vx_words.proofs.MaskWords.{passed_mask}
use Rattle.vx_words.proofs.positions.list_positions.Goals as goal

pub count_set-count-requires : goal.count_set-count-requires
count_set-count-requires c =
    omega (arith, (passed_mask c.args.rows c.args.words.now _ c.fault_of-fault.ensures c.if-fault-ne-DONE.false).few)

pub put_positions-requires-clause-counted : goal.put_positions-requires-clause-counted
put_positions-requires-clause-counted c =
    omega (arith, (passed_mask c.args.rows c.args.words.now _ c.fault_of-fault.ensures c.if-fault-ne-DONE.false).lengths)
