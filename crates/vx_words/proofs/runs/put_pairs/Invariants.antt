use Rattle.std.proofs.Common.{◌≡◌, ℕ, ◌+◌, ◌*◌, List, ◌++◌, map, take, drop}
use Rattle.std.specs.Int.RustNames.{count_ones}
use Rattle.vx_bits.specs.Words.{word_bits}
use Rattle.vx_mask.specs.Positions.{positions}
use Rattle.vx_words.specs.Runs.{pairs, run_of}
use Rattle.vx_words.proofs.runs.put_pairs.Given as goal

abbrev pub invariant-pairs : goal.invariant-pairs
invariant-pairs l = record {
  told : (end : ℕ) (more : List ℕ) → take l.next l.dst ++ map run_of (pairs end (positions l.base (word_bits l.left 64) ++ more)) ≡ take l.count l.initial.dst ++ map run_of (pairs end (positions l.base (word_bits l.marks 64) ++ more));
  count : 2 * l.next + count_ones l.left ≡ 2 * l.count + count_ones l.marks;
  rest : drop l.next l.dst ≡ drop l.next l.initial.dst;
}

abbrev pub decreases-pairs : goal.decreases-pairs
decreases-pairs l = count_ones l.left
