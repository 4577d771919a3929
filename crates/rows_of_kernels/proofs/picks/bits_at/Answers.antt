use Rattle.std.proofs.Common.{arith}
use Rattle.rows_of_kernels.proofs.picks.bits_at.Goals as goal

pub gather_bits-requires : goal.gather_bits-requires
gather_bits-requires c = omega arith
