use Rattle.std.proofs.Common.{◌≡◌, ◌+◌, ◌-◌, ◌*◌, ◌≤◌, ◌++◌, length, take, drop}
use Rattle.vx_bits.specs.Words.{word_bits}
use Rattle.vx_filter.specs.Compact.{bits_of_words}
use Rattle.vx_mask.specs.Positions.{positions}
use Rattle.vx_chunked.proofs.bits.put_words.Given as goal

abbrev pub invariant-bit : goal.invariant-bit
invariant-bit l = record {
  within : l.used ≤ length l.words;
  near : l.base ≤ l.from + 64 * l.used;
  few : l.filled ≤ length l.places;
  room : length l.places ≡ length (positions l.from (bits_of_words l.words));
  items : (take l.filled l.places ++ positions l.base (word_bits l.left 64)) ++ positions (l.from + 64 * l.used) (bits_of_words (drop l.used l.words)) ≡ positions l.from (bits_of_words l.words);
}

abbrev pub decreases-bit : goal.decreases-bit
decreases-bit l = (length l.places - l.filled) + (length l.words - l.used)
