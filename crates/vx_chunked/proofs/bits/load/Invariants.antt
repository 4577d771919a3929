use Rattle.std.proofs.Common.{◌≡◌, length, map, take}
use Rattle.std.specs.List.{range_with_len}
use Rattle.vx_bits.specs.Words.{word_at}
use Rattle.vx_filter.specs.Compact.{bits_of_words}
use Rattle.vx_mask.specs.Positions.{positions}
use Rattle.vx_chunked.proofs.bits.load.Given as goal

abbrev pub invariant-loop-w : goal.invariant-loop-w
invariant-loop-w l = record {
  words : take l.w l.words ≡ map (word_at l.bits.bits) (range_with_len 0 l.w);
  count : l.count ≡ length (positions 0 (bits_of_words (take l.w l.words)));
}
