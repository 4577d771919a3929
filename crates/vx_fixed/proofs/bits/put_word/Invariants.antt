use Rattle.std.proofs.Common.{◌≡◌, ◌+◌}
use Rattle.std.specs.Int.RustNames.{count_ones}
use Rattle.vx_bits.specs.Words.{word_bits}
use Rattle.vx_mask.specs.Positions.{positions}
use Rattle.vx_fixed.proofs.Rows.{IsPutting}
use Rattle.vx_fixed.proofs.bits.put_word.Given as goal

abbrev pub invariant-loop-k : goal.invariant-loop-k
invariant-loop-k g l = record {
  putting : IsPutting g.row.W l.src l.from l.initial.out l.out l.kept l.next (positions l.base (word_bits l.word 64)) (positions l.base (word_bits l.left 64));
  count : l.next ≡ l.kept + l.k;
  ones : count_ones l.left + l.k ≡ count_ones l.word;
}
