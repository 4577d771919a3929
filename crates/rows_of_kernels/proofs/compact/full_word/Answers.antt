use Rattle.std.proofs.Common.{arith}
use Rattle.rows_of_kernels.proofs.OneWord.{set_at_most}
use Rattle.rows_of_kernels.proofs.compact.full_word.Goals as goal

pub compact_words-count-requires-clause-room : goal.compact_words-count-requires-clause-room
compact_words-count-requires-clause-room c = omega (arith, set_at_most 18446744073709551615 64 (omega arith) (omega arith))
