use Rattle.std.proofs.Common.{◌≡◌, ◌+◌, ◌++◌, take, drop}
use Rattle.std.specs.Int.RustNames.{count_ones}
use Rattle.vx_bits.specs.Words.{word_bits}
use Rattle.vx_mask.specs.Positions.{positions}
use Rattle.vx_words.proofs.positions.put_word.Given as goal

abbrev pub invariant-loop-k : goal.invariant-loop-k
invariant-loop-k l = record {
  whole : take l.next l.dst ++ positions l.base (word_bits l.left 64) ≡ take l.kept l.initial.dst ++ positions l.base (word_bits l.word 64);
  rest : drop l.next l.dst ≡ drop l.next l.initial.dst;
  count : l.next ≡ l.kept + l.k;
  ones : count_ones l.left + l.k ≡ count_ones l.word;
}
