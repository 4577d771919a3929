use Rattle.std.proofs.Common.{◌≡◌, ◌+◌, ◌^◌, ◌<◌, ◌++◌, length, vec_len}
use Rattle.std.specs.Vec.{vec_capacity}
use Rattle.std.specs.List.{items_where_true}
use Rattle.std.specs.Int.RustNames.{count_ones}
use Rattle.vx_bits.specs.Words.{word_bits}
use Rattle.vx_filter.proofs.bitmap.push_word.Given as goal

abbrev pub invariant-loop-k : goal.invariant-loop-k
invariant-loop-k g l = record {
  items : l.kept.items ++ items_where_true (word_bits l.left 64) l.items ≡ l.initial.kept.items ++ items_where_true (word_bits l.word 64) l.items;
  within : l.left < 2 ^ length l.items;
  count : count_ones l.left + l.k ≡ count_ones l.word;
  len : vec_len l.kept ≡ vec_len l.initial.kept + l.k;
  room : vec_capacity l.kept ≡ vec_capacity l.initial.kept;
}
