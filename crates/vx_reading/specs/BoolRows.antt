-- The bit in a row of bools, and bits that follow one another.
use Rattle.std.specs.Prelude.{◌≡◌, ℕ, ◌+◌, ◌<◌, ◌≤◌, List, length, take, drop, Bool, Option, Some, None}
use Rattle.vx_bits.specs.BitBuffer.{number_of}
use Rattle.vx_types.specs.RowValue.{RowValue, bit}
use Rattle.vx_types.specs.TypeTree.{TypeTree, is_bool_kind}

abbrev pub is_bool_type : TypeTree → Bool
is_bool_type t = is_bool_kind t.kind

-- the bit in a row; none where the row is null
abbrev pub bit_in : RowValue → Option Bool
bit_in (bit b) = Some b
bit_in x = None

-- `len` bits from bit `start` on, some and at most 64, as a word: the first one lowest, and zeros
-- above them
pub record IsStretch (bits : List Bool) (start word len : ℕ) : Type 0 where
  pub some : 0 < len
  pub few : len ≤ 64
  pub within : start + len ≤ length bits
  pub spelled : word ≡ number_of (take len (drop start bits))
