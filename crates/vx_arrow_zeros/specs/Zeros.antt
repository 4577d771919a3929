-- Zeros at null rows, and past the rows.
use Rattle.std.specs.Prelude.{◌≡◌, ℕ, ◌+◌, ◌*◌, ◌/◌, ◌<◌, ◌≤◌, Bool, false, ◌&&◌, ◌||◌, ◌==◌, nat_le, nat_lt, List, length, slice_index, if◌then◌else◌, Option, Some, None}
use Rattle.vx_arrow_image.specs.declared.format.Format.{Format}
use Rattle.vx_arrow_image.specs.declared.format.Format.TheVariants.{Bits, Fixed, TextView, ListView}
use Rattle.vx_arrow_image.specs.Image.{bit_of, is_valid, size_of}

-- `count` rows of `width` bytes each, from byte `start` on: a row that isn't kept is of zeros, and
-- every other byte is as it was
pub record ClearsRows (keeps : ℕ → Bool) (start count width : ℕ) (old new : List ℕ) : Type 0 where
  pub long : length new ≡ length old
  pub rows : (k i : ℕ) → k < count → i < width → slice_index new (start + (k * width + i))
      ≡ (if keeps k then slice_index old (start + (k * width + i)) else 0)
  pub before : (j : ℕ) → j < start → slice_index new j ≡ slice_index old j
  pub behind : (j : ℕ) → start + count * width ≤ j → slice_index new j ≡ slice_index old j

-- how many bytes the bits of so many rows have
abbrev pub byte_count : ℕ → ℕ
byte_count rows = (rows + 7) / 8

-- a bit for each row: in their bytes the bits that aren't kept, and those past the rows, are clear,
-- and every other bit is as it was
pub record ClearsBits (keeps : ℕ → Bool) (rows : ℕ) (old new : List ℕ) : Type 0 where
  pub long : length new ≡ length old
  pub bits : (j : ℕ) → j < 8 * byte_count rows
      → bit_of new j ≡ (nat_lt j rows && (keeps j && bit_of old j))
  pub behind : (k : ℕ) → byte_count rows ≤ k → slice_index new k ≡ slice_index old k

-- how many bytes of values a row has, where it has a value of a fixed width
abbrev pub value_width : Option Format → ℕ → ℕ
value_width (Some Fixed) width = width
value_width (Some TextView) width = 16
value_width format width = 0

-- how many bytes of offsets, and of sizes, a list view has
abbrev pub view_width : Option Format → ℕ
view_width (Some (ListView z)) = size_of z
view_width format = 0

-- how many bytes of values so many rows have
abbrev pub value_bytes : Option Format → ℕ → ℕ → ℕ
value_bytes (Some Bits) width rows = byte_count rows
value_bytes format width rows = rows * value_width format width

-- so many bytes of validity are none, or enough
abbrev pub holds_bits : ℕ → ℕ → Bool
holds_bits len rows = (len == 0) || nat_le (byte_count rows) len

-- there is such a format, and its lists have as many bytes as so many rows need
abbrev pub holds_rows : Option Format → ℕ → ℕ → ℕ → ℕ → ℕ → ℕ → Bool
holds_rows None width rows valid offsets values sizes = false
holds_rows (Some format) width rows valid offsets values sizes =
    holds_bits valid rows
    && (nat_le (rows * view_width (Some format)) offsets
    && (nat_le (value_bytes (Some format) width rows) values
    && nat_le (rows * view_width (Some format)) sizes))

-- the values of so many rows are cleared where these are null
abbrev pub ClearsValues : Option Format → ℕ → ℕ → List ℕ → List ℕ → List ℕ → Type 0
ClearsValues (Some Bits) width rows valid old new = ClearsBits (is_valid valid) rows old new
ClearsValues format width rows valid old new =
    ClearsRows (is_valid valid) 0 rows (value_width format width) old new
