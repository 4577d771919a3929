use Rattle.std.proofs.Common.{arith}
use Rattle.vx_bits.proofs.words.lowest_bits.Goals as goal
use Rattle.vx_lemmas.proofs.Numbers.{low_bits}

pub returns-else-n-eq64 : goal.returns-else-n-eq64
returns-else-n-eq64 c = low_bits c.args.word c.args.n (omega arith)
