-- The bits of words, and the lowest run of a word.
use Rattle.std.specs.Prelude.{◌≡◌, ℕ, ◌+◌, ◌<◌, ◌≤◌, Bool, List, ◌++◌, take, drop}
use Rattle.std.specs.List.{flat_map, items_where_true, range_with_len}
use Rattle.std.specs.Int.RustNames.{count_ones}
use Rattle.vx_bits.specs.BitBuffer.{true_count_of}
use Rattle.vx_bits.specs.Words.{word_bits}
use Rattle.vx_mask.specs.Positions.{positions}

-- the 64 bits of each word, one word after another
abbrev pub bits_of_words : List ℕ → List Bool
bits_of_words words = flat_map (λ word. word_bits word 64) words

-- the items at the set bits, so many, stand at the front, and the rest is as it was
pub record AreCompacted {X : Type 0} (src : List X) (words : List ℕ) (old new : List X) (kept : ℕ)
    : Type 0 where
  pub count : kept ≡ true_count_of (bits_of_words words)
  pub front : take kept new ≡ items_where_true (bits_of_words words) src
  pub rest : drop kept new ≡ drop kept old

-- the bits from `low` on, `count` of them, are the lowest that are set, and `rest` is the word
-- without them
pub record IsLowestRun (word low count rest : ℕ) : Type 0 where
  pub some : 0 < count
  pub inside : low + count ≤ 64
  pub places : (base : ℕ)
      → positions base (word_bits word 64)
      ≡ range_with_len (base + low) count ++ positions base (word_bits rest 64)
  pub ones : count_ones word ≡ count + count_ones rest
  pub smaller : rest < word
