use Rattle.std.proofs.Common.{◌≡◌, ◌+◌, ◌++◌, take, map, Some}
use Rattle.std.specs.Int.RustNames.{count_ones}
use Rattle.std.specs.List.{slice_get}
use Rattle.vx_bits.specs.Words.{word_bits}
use Rattle.vx_mask.specs.Positions.{positions}
use Rattle.vx_filter.proofs.Copies.{IsCopying}
use Rattle.vx_filter.proofs.compact.copy_word.Given as goal

abbrev pub invariant-loop-k : goal.invariant-loop-k
invariant-loop-k g l = record {
  copying : IsCopying (map Some (take l.kept l.initial.dst) ++ map (slice_get l.src) (positions l.base (word_bits l.word 64))) l.src l.initial.dst l.dst l.next (positions l.base (word_bits l.left 64));
  count : l.next ≡ l.kept + l.k;
  ones : count_ones l.left + l.k ≡ count_ones l.word;
}
