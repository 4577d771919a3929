use Rattle.std.proofs.Common.{arith}
use Rattle.rows_of_kernels.proofs.OneWord.{set_at_most}
use Rattle.rows_of_kernels.proofs.compact.long_run.Goals as goal

pub compact_runs-count-requires-clause-room : goal.compact_runs-count-requires-clause-room
compact_runs-count-requires-clause-room c = omega (arith, set_at_most 18446673704965373952 64 (omega arith) (omega arith))
