use Rattle.std.proofs.Common.{arith}
use Rattle.rows_of_kernels.proofs.OneWord.{clear_from, set_at_most}
use Rattle.rows_of_kernels.proofs.compact.by_runs.Goals as goal

pub compact_runs-count-requires-clause-clear : goal.compact_runs-count-requires-clause-clear
compact_runs-count-requires-clause-clear c = clear_from 13 5 (omega arith)

pub compact_runs-count-requires-clause-room : goal.compact_runs-count-requires-clause-room
compact_runs-count-requires-clause-room c = omega (arith, set_at_most 13 4 (omega arith) (omega arith))
