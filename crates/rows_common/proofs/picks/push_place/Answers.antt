use Rattle.std.proofs.Common.{arith}
use Rattle.rows_common.proofs.picks.push_place.Goals as goal

pub push-requires : goal.push-requires
push-requires c = omega arith
