-- What a JSON value means as offsets or sizes: a column of non-negative integers.
use Rattle.std.specs.Prelude.{ℕ, ◌&&◌, List, Bool, true, if◌then◌else◌, Option, Some, None, is_some, codes}
use Rattle.serde_json.specs.Data.{Data, Items, no_items, item}
use Rattle.serde_json.specs.Find.{get, as_str, as_array}
use Rattle.vx_types.specs.PType.{width}
use Rattle.vx_types.specs.declared.ptype.PType.{PType}
use Rattle.vx_model.specs.Records.{RecordParts}
use Rattle.vx_model.specs.Valid.{non_nullable}
use Rattle.vx_json.specs.Meaning.{◌>>=◌, found_or}
use Rattle.vx_json.specs.Items.{each}
use Rattle.vx_json.specs.Values.{ptype_named, value_or_zero}
use Rattle.vx_json.specs.Wholes.{whole_of}
use Rattle.vx_column_json.specs.Primitive.{primitive_parts}

abbrev pub type_named : Data → Option PType
type_named d = as_str d >>= ptype_named

-- the offsets' type: as the object says, or else the usual one
unfoldable pub offset_type_of : PType → Data → Option PType
offset_type_of usual d = found_or usual type_named (get (codes "offset_type") d)

abbrev pub offsets_column : PType → List (List ℕ) → RecordParts
offsets_column p records = primitive_parts p records non_nullable

-- each is a non-negative integer
abbrev pub are_wholes : Items → Bool
are_wholes no_items = true
are_wholes (item d ds) = is_some (whole_of d) && are_wholes ds

-- the records of non-negative integers, each in the type's range
abbrev pub whole_records : PType → Items → Option (List (List ℕ))
whole_records p items = if are_wholes items then each (value_or_zero (width p) p) items else None

-- those that the member of this name lists
unfoldable pub offsets_in : PType → List ℕ → Data → Option RecordParts
offsets_in p name d = do
  records ← get name d >>= as_array >>= whole_records p
  Some (offsets_column p records)
