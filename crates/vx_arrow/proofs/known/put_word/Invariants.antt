use Rattle.std.proofs.Common.{◌≡◌, ◌+◌, ◌++◌, take, drop}
use Rattle.std.specs.Int.RustNames.{count_ones}
use Rattle.vx_bits.specs.Words.{word_bits}
use Rattle.vx_mask.specs.Positions.{positions}
use Rattle.vx_arrow.proofs.known.put_word.Given as goal

abbrev pub invariant-loop-k : goal.invariant-loop-k
invariant-loop-k l = record {
  whole : take l.next l.places ++ positions l.base (word_bits l.left 64) ≡ take l.kept l.initial.places ++ positions l.base (word_bits l.word 64);
  rest : drop l.next l.places ≡ drop l.next l.initial.places;
  count : l.next ≡ l.kept + l.k;
  ones : count_ones l.left + l.k ≡ count_ones l.word;
}
