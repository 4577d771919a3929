use Rattle.std.proofs.Common.{arith}
use Rattle.rows_of_kernels.proofs.needs.set_of.Goals as goal

pub rank-requires : goal.rank-requires
rank-requires c = omega arith
