-- Why bytes are no spelling of a chunk.
use Rattle.std.specs.Prelude.{ℕ, ◌+◌, ◌*◌, ◌^◌, Bool, List, ◌==◌, ◌&&◌, ◌||◌, not, if◌then◌else◌, nat_le, nat_lt, length, map, take, drop, slice_index, Option, None, Some}
use Rattle.std.specs.Int.{from_le_bytes, w64}
use Rattle.std.specs.List.{range_with_len}
use Rattle.vx_bits.specs.BitBuffer.{bits_of, number_of}
use Rattle.vx_packed.specs.Chunk.{digits, greatest, least}
use Rattle.vx_packed.specs.declared.fault.PackedFault.{PackedFault}
use Rattle.vx_packed.specs.declared.fault.PackedFault.TheVariants.{Short, Width, Long, Base, Slack, TooBig}

-- numbers have one, two, four or eight bytes
abbrev pub is_width : ℕ → Bool
is_width width = width == 1 || width == 2 || width == 4 || width == 8

-- what bytes state: how many digits each offset has, the base, and the offsets
abbrev pub digits_in : List ℕ → ℕ
digits_in bytes = slice_index bytes 0

unfoldable pub base_in : List ℕ → ℕ
base_in bytes = from_le_bytes w64 (take 8 (drop 1 bytes))

-- number j of those that bits spell, `width` bits to each
abbrev pub field : List ℕ → ℕ → ℕ → ℕ
field body width j = number_of (bits_of body (j * width) width)

unfoldable pub fields : List ℕ → ℕ → List ℕ
fields body width = map (field body width) (range_with_len 0 1024)

abbrev pub offsets_in : List ℕ → List ℕ
offsets_in bytes = fields (drop 9 bytes) (digits_in bytes)

-- the numbers that bytes state
abbrev pub numbers_in : List ℕ → List ℕ
numbers_in bytes = map (λ n. base_in bytes + n) (offsets_in bytes)

-- the first rule that is broken, by the number of bytes, the digits and the base that they state,
-- and the least and the greatest offset
abbrev pub fault_by : ℕ → ℕ → ℕ → ℕ → ℕ → ℕ → Option PackedFault
fault_by width count w base low high =
    if nat_lt count 9 || (nat_le w (8 * width) && nat_lt count (9 + 128 * w)) then Some Short
    else if nat_lt (8 * width) w then Some Width
    else if nat_lt (9 + 128 * w) count then Some Long
    else if not (low == 0) then Some Base
    else if not (digits high == w) then Some Slack
    else if nat_le (2 ^ (8 * width)) (base + high) then Some TooBig
    else None

-- the first rule that bytes break
unfoldable pub chunk_fault : ℕ → List ℕ → Option PackedFault
chunk_fault width bytes =
    fault_by width (length bytes) (digits_in bytes) (base_in bytes)
    (least (offsets_in bytes)) (greatest (offsets_in bytes))
