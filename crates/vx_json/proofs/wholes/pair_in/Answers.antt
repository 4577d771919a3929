-- Lists of another length than two.
use Rattle.std.proofs.Common.{arith}
use Rattle.vx_json.proofs.PairLists.{pair_in-short, pair_in-long}
use Rattle.vx_json.proofs.wholes.pair_in.Goals as goal

pub returns-in_default-clause-value : goal.returns-in_default-clause-value
returns-in_default-clause-value c = pair_in-short c.args.items.now.items (grind arith)

pub returns-in_default-2-clause-value : goal.returns-in_default-2-clause-value
returns-in_default-2-clause-value c = pair_in-long c.args.items.now.items (grind arith)
