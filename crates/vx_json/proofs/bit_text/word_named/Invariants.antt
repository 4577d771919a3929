-- What a loop over the eights of a word keeps.
use Rattle.std.proofs.Common.{◌≡◌, ◌*◌, ◌^◌, ◌<◌, drop}
use Rattle.vx_bits.specs.Words.{word_bits}
use Rattle.vx_json.specs.Meaning.{with_read}
use Rattle.vx_json.specs.BitText.{bits_in}
use Rattle.vx_json.proofs.bit_text.word_named.Given as goal

-- what the digits that are left mean, behind the word's bits so far, is what all mean
abbrev pub invariant-loop-k : goal.invariant-loop-k
invariant-loop-k l = record {
  reading : with_read (word_bits l.word (8 * l.k)) (bits_in (drop (8 * l.k) l.digits)) ≡ bits_in l.digits;
  below : l.word < 2 ^ (8 * l.k);
}
