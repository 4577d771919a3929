-- The spelling of 1024 numbers as bytes.
use Rattle.std.specs.Prelude.{◌≡◌, ℕ, ◌-◌, ◌*◌, ◌/◌, ◌%◌, ◌^◌, ◌<◌, Bool, List, ◌∷◌, ◌++◌, min, max, length, map, take, drop, slice_index}
use Rattle.std.specs.Int.{leading_zeros, to_le_bytes, w64}
use Rattle.std.specs.List.{All, flat_map, fold, range_with_len}
use Rattle.vx_bits.specs.BitBuffer.{number_of}
use Rattle.vx_bits.specs.Words.{word_bits}

-- the least and the greatest of some numbers
unfoldable pub least : List ℕ → ℕ
least numbers = fold min (slice_index numbers 0) numbers

unfoldable pub greatest : List ℕ → ℕ
greatest numbers = fold max (slice_index numbers 0) numbers

-- how many binary digits a number below 2 ^ 64 has; 0 has none
unfoldable pub digits : ℕ → ℕ
digits n = 64 - leading_zeros w64 n

-- the bytes that bits spell, eight to a byte, the first one lowest
unfoldable pub bytes_of : List Bool → List ℕ
bytes_of bits =
    map (λ i. number_of (take 8 (drop (8 * i) bits))) (range_with_len 0 (length bits / 8))

-- the lowest `width` bits of each number less the base, one number after another
unfoldable pub field_bits : ℕ → ℕ → List ℕ → List Bool
field_bits base width numbers = flat_map (λ n. word_bits (n - base) width) numbers

-- the bytes of numbers, at a base and a number of digits
abbrev pub spell_at : ℕ → ℕ → List ℕ → List ℕ
spell_at base width numbers =
    width ∷ (to_le_bytes w64 base ++ bytes_of (field_bits base width numbers))

-- the bytes of a chunk: how many digits its numbers need above the least, the least, and each
-- number less the least
unfoldable pub spell : List ℕ → List ℕ
spell numbers = spell_at (least numbers) (digits (greatest numbers - least numbers)) numbers

-- 1024 numbers of so many bytes
pub record IsChunk (width : ℕ) (numbers : List ℕ) : Type 0 where
  pub count : length numbers ≡ 1024
  pub below : All (λ n. n < 2 ^ (8 * width)) numbers

-- the bytes are the spelling of a chunk
pub record IsSpelling (width : ℕ) (bytes : List ℕ) : Type 0 where
  pub numbers : List ℕ
  pub chunk : IsChunk width numbers
  pub spelled : bytes ≡ spell numbers

-- chunk k of some numbers
abbrev pub chunk_at : List ℕ → ℕ → List ℕ
chunk_at numbers k = take 1024 (drop (1024 * k) numbers)

-- the bytes of a multiple of 1024 numbers, chunk by chunk
unfoldable pub spell_list : List ℕ → List ℕ
spell_list numbers =
    flat_map (λ k. spell (chunk_at numbers k)) (range_with_len 0 (length numbers / 1024))

-- the bytes are the spellings of numbers of so many bytes, chunk by chunk
pub record ArePacked (width : ℕ) (numbers bytes : List ℕ) : Type 0 where
  pub whole : length numbers % 1024 ≡ 0
  pub below : All (λ n. n < 2 ^ (8 * width)) numbers
  pub spelled : bytes ≡ spell_list numbers

-- they are that of some numbers
pub record IsPacked (width : ℕ) (bytes : List ℕ) : Type 0 where
  pub numbers : List ℕ
  pub packed : ArePacked width numbers bytes
