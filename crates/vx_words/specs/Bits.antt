-- Bits in words, and what a filter or a take of bits from outside answers.
use Rattle.std.specs.Prelude.{◌≡◌, ◌≢◌, ◌⊎◌, ℕ, ◌+◌, ◌*◌, ◌==◌, ◌&&◌, Bool, false, List, ◌++◌, length, map, take, drop, if◌then◌else◌, nat_le, nat_lt}
use Rattle.std.specs.List.{items_where_true, range_with_len}
use Rattle.vx_bits.specs.BitBuffer.{true_count_of}
use Rattle.vx_bits.specs.Words.{word_at, word_count}
use Rattle.vx_filter.specs.Compact.{bits_of_words}
use Rattle.vx_take.specs.Picks.{at}
use Rattle.vx_words.specs.Takes.{IsFirstPast, IsPast, pick_at, picks_at, valid_fault}

-- so many bits of the words from bit `offset` on
abbrev pub bits_at : List ℕ → ℕ → ℕ → List Bool
bits_at words offset len = take len (drop offset (bits_of_words words))

-- the words of the bits, the first bit lowest, and zeros past the last one
abbrev pub words_of : List Bool → List ℕ
words_of bits = map (word_at bits) (range_with_len 0 (word_count (length bits)))

-- whether the words hold so many bits from bit `offset` on
abbrev pub are_held : List ℕ → ℕ → ℕ → Bool
are_held words offset len = nat_le (offset + len) (64 * length words)

-- the bits at so many picks from pick `from` on, a clear one at each null
abbrev pub bits_taken : List Bool → List ℕ → List ℕ → ℕ → ℕ → List Bool
bits_taken bits indices valid from n =
    at false bits (map (pick_at indices valid) (range_with_len from n))

-- the bits at the mask's set bits, so many, are the first ones of the output, clear bits fill the
-- last word, and the words behind it are as they were
pub record AreKeptBits (src mask : List Bool) (old new : List ℕ) (kept : ℕ) : Type 0 where
  pub bits : new
      ≡ words_of (items_where_true mask src) ++ drop (word_count (true_count_of mask)) old
  pub count : kept ≡ true_count_of mask

-- the full words of the bits stand at the front, and the next one is the word of the bits behind
-- them
pub record IsPacked (bits : List Bool) (list : List ℕ) (full word held : ℕ) : Type 0 where
  pub words : take full list ≡ map (word_at bits) (range_with_len 0 full)
  pub next : word ≡ word_at bits full
  pub count : length bits ≡ 64 * full + held

-- why so many bits can't be filtered into so many words: 1 where the words of the source or of the
-- mask do not hold them, else 3 where more are selected than there is room for, else 0
abbrev pub bit_filter_fault : List ℕ → ℕ → List ℕ → ℕ → ℕ → ℕ → ℕ
bit_filter_fault src src_at mask mask_at rows room =
    if are_held src src_at rows && are_held mask mask_at rows
    then if nat_lt room (word_count (true_count_of (bits_at mask mask_at rows))) then 3 else 0
    else 1

-- the bits at the mask's set bits are the first ones of the output, clear bits fill the last word,
-- and the words behind it are as they were; or the call was refused and all of it is
pub record AreBitsFiltered (src : List ℕ) (src_at : ℕ) (mask : List ℕ) (mask_at rows : ℕ)
    (old new : List ℕ) (status value : ℕ) : Type 0 where
  pub fault : status ≡ bit_filter_fault src src_at mask mask_at rows (length old)
  pub count : (status ≡ 0) ⊎ (status ≡ 3) → value ≡ true_count_of (bits_at mask mask_at rows)
  pub untold : status ≡ 1 → value ≡ 0
  pub bits : status ≡ 0 → new
      ≡ words_of (items_where_true (bits_at mask mask_at rows) (bits_at src src_at rows))
      ++ drop (word_count value) old
  pub refused : status ≢ 0 → new ≡ old

-- why so many picks of bits do not fit into so many words: 1 where the source's words do not hold
-- its bits, else why the words do not say which picks are not null, else 3 where there is too
-- little room, else 0
abbrev pub bit_take_fault : List ℕ → ℕ → ℕ → ℕ → List ℕ → ℕ → ℕ
bit_take_fault src src_at len picks valid room =
    if are_held src src_at len
    then if valid_fault picks valid == 0
    then if nat_lt room (word_count picks) then 3 else 0
    else valid_fault picks valid
    else 1

-- the bits at the picks are the first ones of the output, a clear one at each null, clear bits fill
-- the last word, and the words behind it are as they were; or the call was refused and all of it is
pub record AreBitsTaken (src : List ℕ) (src_at len : ℕ) (indices valid old new : List ℕ)
    (status value : ℕ) : Type 0 where
  pub fault : bit_take_fault src src_at len (length indices) valid (length old) ≢ 0
      → status ≡ bit_take_fault src src_at len (length indices) valid (length old)
  pub fits : bit_take_fault src src_at len (length indices) valid (length old) ≡ 0
      → (status ≡ 0) ⊎ (status ≡ 4)
  pub inside : status ≡ 0 → (k : ℕ) → IsPast len indices valid k → ⊥
  pub past : status ≡ 4 → IsFirstPast len indices valid value
  pub count : (status ≡ 0) ⊎ (status ≡ 3) → value ≡ length indices
  pub untold : (status ≡ 1) ⊎ (status ≡ 2) → value ≡ 0
  pub bits : status ≡ 0 → new
      ≡ words_of (at false (bits_at src src_at len) (picks_at indices valid))
      ++ drop (word_count value) old
  pub refused : status ≢ 0 → new ≡ old
