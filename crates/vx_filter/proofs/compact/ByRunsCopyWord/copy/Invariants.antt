use Rattle.std.proofs.Common.{◌≡◌, ◌+◌, ◌++◌, take, map, Some}
use Rattle.std.specs.Int.RustNames.{count_ones}
use Rattle.std.specs.List.{slice_get}
use Rattle.vx_bits.specs.Words.{word_bits}
use Rattle.vx_mask.specs.Positions.{positions}
use Rattle.vx_filter.proofs.Copies.{IsCopyingRuns}
use Rattle.vx_filter.proofs.compact.ByRunsCopyWord.copy.Given as goal

abbrev pub invariant-run : goal.invariant-run
invariant-run g l = record {
  copying : IsCopyingRuns (map Some (take l.kept l.initial.dst) ++ map (slice_get l.src) (positions l.base (word_bits l.word 64))) l.src l.initial.dst l.dst l.next l.end (positions l.base (word_bits l.left 64));
  ones : l.next + count_ones l.left ≡ l.kept + count_ones l.word;
}

abbrev pub decreases-run : goal.decreases-run
decreases-run g l = l.left
