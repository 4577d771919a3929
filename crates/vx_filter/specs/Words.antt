-- What is left of the items of one word.
use Rattle.std.specs.Prelude.{◌≡◌, ℕ, ◌+◌, List, ◌++◌, Some, map, take, drop, slice_get}
use Rattle.std.specs.Int.RustNames.{count_ones}
use Rattle.vx_bits.specs.Words.{word_bits}
use Rattle.vx_mask.specs.Positions.{positions}

-- the items at the set bits of a word, whose first one has position `base`, stand behind those that
-- were kept, up to `next`, and from the word's end on all is as it was
pub record IsWordKept {X : Type 0} (old new : List X) (kept base word next : ℕ) : Type 0 where
  pub count : next ≡ kept + count_ones word
  pub front : map Some (take next new)
      ≡ map Some (take kept old) ++ map (slice_get old) (positions base (word_bits word 64))
  pub after : drop (base + 64) new ≡ drop (base + 64) old

-- the items of another list at the set bits of a word stand there, and the rest is as it was
pub record IsWordCopied {X : Type 0} (src old new : List X) (kept base word next : ℕ)
    : Type 0 where
  pub count : next ≡ kept + count_ones word
  pub front : map Some (take next new)
      ≡ map Some (take kept old) ++ map (slice_get src) (positions base (word_bits word 64))
  pub rest : drop next new ≡ drop next old
