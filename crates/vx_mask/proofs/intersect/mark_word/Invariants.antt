use Rattle.std.proofs.Common.{◌≡◌, ◌+◌, ◌++◌, length, drop}
use Rattle.std.specs.Int.RustNames.{count_ones}
use Rattle.std.specs.List.{items_where_true}
use Rattle.vx_bits.specs.Words.{word_bits}
use Rattle.vx_mask.specs.Positions.{positions, set_of}
use Rattle.vx_mask.proofs.MarkedBits.{IsOpen}
use Rattle.vx_mask.proofs.intersect.mark_word.Given as goal

abbrev pub invariant-loop-k : goal.invariant-loop-k
invariant-loop-k l = record {
  set : set_of l.kept ++ items_where_true (drop (l.from + l.k) l.by.bits) (positions l.base (word_bits l.left 64))
      ≡ set_of l.initial.kept ++ items_where_true (drop l.from l.by.bits) (positions l.base (word_bits l.word 64));
  count : count_ones l.left + l.k ≡ count_ones l.word;
  long : length l.kept ≡ length l.initial.kept;
  still : IsOpen l.kept (length l.initial.kept) (l.base + 64) (positions l.base (word_bits l.left 64));
}
