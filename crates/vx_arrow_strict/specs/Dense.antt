-- How the offsets of a dense union go on.
use Rattle.std.specs.Prelude.{ℕ, ◌+◌, ◌-◌, Bool, true, ◌&&◌, ◌==◌, nat_le, length, slice_index, if◌then◌else◌, Option, Some}
use Rattle.std.specs.List.{list_all, range_with_len}
use Rattle.vx_arrow_image.specs.declared.format.Format.{Format}
use Rattle.vx_arrow_image.specs.declared.format.Format.TheVariants.{DenseUnion}
use Rattle.vx_arrow_image.specs.declared.format.Offsets.TheVariants.{Short}
use Rattle.vx_arrow_image.specs.Image.{Part, dense_start, holds_starts, is_placed}

-- the type id of row j
abbrev pub id_of : Part → ℕ → ℕ
id_of p j = slice_index p.values j

-- the offset of row j isn't above that of row i, if both are of one child
abbrev pub precedes : Part → ℕ → ℕ → Bool
precedes p i j =
    if id_of p j == id_of p i then nat_le (dense_start p j) (dense_start p i) else true

-- no earlier row of its child has a higher offset than row i
unfoldable pub follows : Part → ℕ → Bool
follows p i = list_all (precedes p i) (range_with_len p.offset (i - p.offset))

-- the offsets of the rows of each child do not descend
unfoldable pub ascends : Part → Bool
ascends p =
    is_placed p
    && (holds_starts Short p.offsets (p.offset + p.len)
    && (nat_le (p.offset + p.len) (length p.values)
    && list_all (follows p) (range_with_len p.offset p.len)))

abbrev pub dense_holds : Option Format → Part → Bool
dense_holds (Some DenseUnion) p = ascends p
dense_holds f p = true
