-- Which codes are those of a dictionary's values.
use Rattle.std.specs.Prelude.{ℕ, ◌+◌, ◌*◌, ◌-◌, ◌^◌, Bool, ◌&&◌, ◌||◌, ◌==◌, nat_le, nat_lt, min, length, take, drop, slice_index, if◌then◌else◌}
use Rattle.std.specs.Int.{from_le_bytes, w16}
use Rattle.vx_arrow_image.specs.declared.format.Offsets.TheVariants.{Short, Long}
use Rattle.vx_arrow_image.specs.Image.{Part, all_valid, is_placed, offset_at}
use Rattle.vx_arrow_strict.specs.declared.flaw.Extra.{Extra}

-- codes have 1, 2, 4 or 8 bytes
abbrev pub is_width : ℕ → Bool
is_width n = (n == 1) || ((n == 2) || ((n == 4) || (n == 8)))

-- the code of row j, read as an unsigned number
unfoldable pub code_of : Part → ℕ → ℕ
code_of p j =
    if p.width == 1 then slice_index p.values j
    else if p.width == 2 then from_le_bytes w16 (take 2 (drop (2 * j) p.values))
    else if p.width == 4 then offset_at Short p.values j
    else offset_at Long p.values j

-- the codes of values are below it; a signed code in the upper half of its range is negative
abbrev pub code_limit : Part → Extra → ℕ
code_limit p x = if x.codes == 2 then min x.values (2 ^ (8 * p.width - 1)) else x.values

abbrev pub is_code : Part → Extra → ℕ → Bool
is_code p x j = nat_lt (code_of p j) (code_limit p x)

-- each row that isn't null has the code of a value, if there is a dictionary
unfoldable pub has_codes : Part → Extra → Bool
has_codes p x =
    (x.codes == 0)
    || (nat_le x.codes 2
    && (is_width p.width
    && (is_placed p
    && (nat_le ((p.offset + p.len) * p.width) (length p.values) && all_valid p (is_code p x)))))
