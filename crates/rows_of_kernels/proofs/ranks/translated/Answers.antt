use Rattle.std.proofs.Common.{arith}
use Rattle.rows_of_kernels.proofs.ranks.translated.Goals as goal

pub translate_ranks-requires : goal.translate_ranks-requires
translate_ranks-requires c = omega arith
