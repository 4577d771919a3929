-- Lists of bits in bytes.
use Rattle.std.specs.Prelude.{◌≡◌, ℕ, ◌+◌, ◌*◌, ◌/◌, ◌%◌, ◌^◌, Bool, true, List, [], ◌∷◌, map, drop, slice_index, slice_get, ◌==◌, if◌then◌else◌, count_by, nat_le, nat_lt, Option, None, Some}
use Rattle.std.specs.Int.{bit_at}
use Rattle.std.specs.List.{range_with_len}
use Rattle.vx_bits.specs.declared.bit_buffer.BitError.{BitError}
use Rattle.vx_bits.specs.declared.bit_buffer.BitError.TheVariants.{Offset, Short}

-- what a clause sees of a `BitBuffer`: its bits, and where the first one lies in its byte
pub record PlacedBits : Type 0 where
  pub bits : List Bool
  pub offset : ℕ

-- bit j of the bytes, the least significant of each byte first
abbrev pub bit_of : List ℕ → ℕ → Bool
bit_of bytes j = bit_at (slice_index bytes (j / 8)) (j % 8) == 1

-- `len` bits, whose item i is bit `offset + i` of the bytes
abbrev pub bits_of : List ℕ → ℕ → ℕ → List Bool
bits_of bytes offset len = map (bit_of bytes) (range_with_len offset len)

-- why so many bytes do not hold `len` bits from bit `offset` on, if they do not
abbrev pub bit_fault : ℕ → ℕ → ℕ → Option BitError
bit_fault byte_count offset len =
    if nat_lt 7 offset then Some Offset
    else if nat_le (2 ^ 64) (offset + len) then Some Short
    else if nat_lt (8 * byte_count) (offset + len) then Some Short
    else None

-- how many bits are set
abbrev pub true_count_of : List Bool → ℕ
true_count_of bits = count_by (λ bit. bit) bits

-- bit i is set, and none behind it
pub record IsLastSet (bits : List Bool) (i : ℕ) : Type 0 where
  pub set : slice_get bits i ≡ Some true
  pub last : true_count_of (drop (i + 1) bits) ≡ 0

-- the number whose bit k is item k, and zero past the items
abbrev pub number_of : List Bool → ℕ
number_of [] = 0
number_of (bit ∷ bits) = (if bit then 1 else 0) + 2 * number_of bits
