-- Offsets and lengths that are read from buffers.
use Rattle.std.specs.Prelude.{ℕ, ◌+◌, ◌-◌, ◌*◌, ◌/◌, ◌^◌, Bool, false, ◌&&◌, List, length, nat_lt, if◌then◌else◌, Option, Some, None, unwrap_or}
use Rattle.vx_arrow_image.specs.declared.format.Format.TheVariants.{Text, List as Lists, FixedList}
use Rattle.vx_arrow_image.specs.declared.format.Format.{Format}
use Rattle.vx_arrow_image.specs.declared.format.Offsets.{Offsets}
use Rattle.vx_arrow_image.specs.declared.format.Offsets.TheVariants.{Short, Long}
use Rattle.vx_arrow_image.specs.Image.{Part, offset_at, size_of}

-- with a sign, numbers from here on are negative
abbrev pub top_of : Offsets → ℕ
top_of Short = 2 ^ 31
top_of Long = 2 ^ 63

-- number j, if it is there and isn't negative
abbrev pub number_at : Offsets → List ℕ → ℕ → Option ℕ
number_at z bytes j =
    if nat_lt j (length bytes / size_of z) && nat_lt (offset_at z bytes j) (top_of z) then
    Some (offset_at z bytes j)
    else None

-- the last number, or 0 where it is negative or missing
abbrev pub last_number : Offsets → List ℕ → ℕ
last_number z bytes = unwrap_or (number_at z bytes (length bytes / size_of z - 1)) 0

-- the bytes of strings end at their last offset
abbrev pub text_of : Option Format → List ℕ → ℕ
text_of (Some (Text z)) offsets = last_number z offsets
text_of _ offsets = 0

abbrev pub text_len : Part → ℕ
text_len p = text_of p.format p.offsets

-- the length of data buffer k of views
abbrev pub data_length : Part → ℕ → Option ℕ
data_length p k = number_at Long p.sizes k

-- lists end after so many rows of their child
abbrev pub are_past : Option Format → Part → ℕ → Bool
are_past (Some (Lists z)) p rows = nat_lt rows (last_number z p.offsets)
are_past (Some FixedList) p rows = nat_lt rows ((p.offset + p.len) * p.width)
are_past _ p rows = false

abbrev pub ends_past : Part → ℕ → Bool
ends_past p rows = are_past p.format p rows
