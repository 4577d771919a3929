-- Parallel bit extract: the bits of a word at the set positions of another.
use Rattle.std.specs.Prelude.{◌≡◌, ℕ, ◌<◌, ◌≤◌, ◌^◌}
use Rattle.std.specs.Int.{bit_at}
use Rattle.std.specs.Int.RustNames.{count_ones}
use Rattle.std.specs.List.{items_where_true}
use Rattle.vx_bits.specs.BitBuffer.{number_of}
use Rattle.vx_bits.specs.Words.{word_bits}
use Rattle.vx_mask.specs.Positions.{rank_of}

-- the bits of `src` at the set positions of `mask`, packed from bit 0, and zero above them
unfoldable pub pext : ℕ → ℕ → ℕ
pext src mask = number_of (items_where_true (word_bits mask 64) (word_bits src 64))

-- bit k is the source's bit at the k-th set position of the mask
abbrev pub HasPackedBits : ℕ → ℕ → Type 0
HasPackedBits src mask =
    mask < 2 ^ 64
    → (k : ℕ) → k < count_ones mask
    → bit_at (pext src mask) k ≡ bit_at src (rank_of (word_bits mask 64) k)

-- from the number of the mask's set bits on the bits are zero
abbrev pub IsZeroAbove : ℕ → ℕ → Type 0
IsZeroAbove src mask =
    mask < 2 ^ 64 → (k : ℕ) → count_ones mask ≤ k → bit_at (pext src mask) k ≡ 0
