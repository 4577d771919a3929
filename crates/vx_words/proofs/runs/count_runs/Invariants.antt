use Rattle.std.proofs.Common.{◌≡◌, false, eqb, take}
use Rattle.std.specs.Int.{bit_at}
use Rattle.vx_bits.specs.BitBuffer.{true_count_of}
use Rattle.vx_filter.specs.Compact.{bits_of_words}
use Rattle.vx_words.specs.Runs.{starts}
use Rattle.vx_words.proofs.RunStarts.{last_of}
use Rattle.vx_words.proofs.runs.count_runs.Given as goal

abbrev pub invariant-loop-w : goal.invariant-loop-w
invariant-loop-w l = record {
  count : l.count ≡ true_count_of (starts false (bits_of_words (take l.w l.words)));
  last : eqb (bit_at l.before 63) 1 ≡ last_of false (bits_of_words (take l.w l.words));
}
