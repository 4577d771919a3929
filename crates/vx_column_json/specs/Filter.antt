-- What a JSON value means as a column of layout `Filter`.
use Rattle.std.specs.Prelude.{[], ◌∷◌, ◌/◌, nat_le, length, List, Bool, Option, Some, if◌then◌else◌, codes}
use Rattle.std.specs.Option.{option_map}
use Rattle.serde_json.specs.Data.{Data}
use Rattle.serde_json.specs.Find.{get}
use Rattle.vx_mask.specs.Mask.{at_front}
use Rattle.vx_bits.specs.BitBuffer.{true_count_of}
use Rattle.vx_mask.specs.MaskValues.{PartialMask, bits_alone, keep_blocks, keep_indices}
use Rattle.vx_mask.specs.declared.mask.Mask.TheVariants.{Values}
use Rattle.vx_model.specs.Column.{Column}
use Rattle.vx_model.specs.Filter.{FilterParts, filter_fault, filter_column}
use Rattle.vx_json.specs.Meaning.{◌>>=◌}
use Rattle.vx_json.specs.Members.{if_closed}
use Rattle.vx_json.specs.Masks.{kept_of, mask_of}
use Rattle.vx_column_json.specs.Made.{made}

-- the rows at these bits
abbrev pub filter_parts : Column → List Bool → FilterParts
filter_parts child bits =
    record { child = child; mask = Values (bits_alone (at_front bits)) }

-- the column of these rows of the child, where the mask is as long
abbrev pub filter_made : Column → List Bool → Option Column
filter_made child bits = made filter_fault filter_column (filter_parts child bits)

unfoldable pub filter_by : Data → Column → Option Column
filter_by d child = do
  o ← if_closed (codes "layout" ∷ codes "child" ∷ codes "mask" ∷ []) d
  bits ← get (codes "mask") o >>= mask_of
  filter_made child bits

-- ---- what the mask keeps

-- the set positions beside the bits where they are at most a 64th of these, or else block counts
abbrev pub with_ranks : PartialMask → PartialMask
with_ranks mask =
    if nat_le (true_count_of mask.bits.bits) (length mask.bits.bits / 64) then keep_indices mask
    else keep_blocks mask

-- what the mask that the object states keeps already, and those; none where it keeps all rows, or
-- no row
unfoldable pub filter_kept : Data → Option (Option PartialMask)
filter_kept d = do
  o ← if_closed (codes "layout" ∷ codes "child" ∷ codes "mask" ∷ []) d
  kept ← get (codes "mask") o >>= kept_of
  Some (option_map with_ranks kept)
