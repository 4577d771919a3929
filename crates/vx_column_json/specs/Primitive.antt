-- What a JSON value means as a column of layout `Primitive`.
use Rattle.std.specs.Prelude.{ℕ, List, [], ◌∷◌, if◌then◌else◌, Option, Some, None, codes}
use Rattle.serde_json.specs.Data.{Data, Items}
use Rattle.serde_json.specs.Find.{get, as_str, as_array}
use Rattle.vx_types.specs.PType.{width, is_int}
use Rattle.vx_types.specs.TypeTree.{primitive_kind}
use Rattle.vx_types.specs.declared.ptype.PType.{PType}
use Rattle.vx_model.specs.Column.{Column}
use Rattle.vx_model.specs.Valid.{Valid}
use Rattle.vx_model.specs.Records.{RecordParts, records_fault, records_column}
use Rattle.vx_json.specs.Meaning.{◌>>=◌}
use Rattle.vx_json.specs.Bools.{has_null}
use Rattle.vx_json.specs.Members.{is_closed}
use Rattle.vx_json.specs.Items.{each}
use Rattle.vx_json.specs.Wholes.{at_most}
use Rattle.vx_json.specs.Values.{ptype_named, value_or_zero, ramp_records}
use Rattle.vx_json.specs.declared.wholes.TheConstants.{GREATEST_LEN}
use Rattle.vx_column_json.specs.Made.{made}
use Rattle.vx_column_json.specs.Validity.{validity_alone, validity_beside}

abbrev pub primitive_parts : PType → List (List ℕ) → Valid → RecordParts
primitive_parts p records valid =
    record { kind = primitive_kind p; width = width p; records = records; valid = valid }

-- the column of these records, where the validity can be theirs
abbrev pub primitive_made : PType → List (List ℕ) → Valid → Option Column
primitive_made p records valid = made records_fault records_column (primitive_parts p records valid)

-- a list of values and nulls
unfoldable pub primitive_by_items : PType → Option Valid → Items → Option Column
primitive_by_items p stated items = do
  valid ← validity_beside stated items
  records ← each (value_or_zero (width p) p) items
  primitive_made p records valid

-- the records of values, none of them null
abbrev pub records_there : PType → Items → Option (List (List ℕ))
records_there p items = if has_null items then None else each (value_or_zero (width p) p) items

-- those that the member of this name lists
unfoldable pub values_there : PType → List ℕ → Data → Option (List (List ℕ))
values_there p name d = get name d >>= as_array >>= records_there p

-- the numbers from 0 on, of an integer type
unfoldable pub ramp_listed : PType → Data → Option (List (List ℕ))
ramp_listed p d = do
  len ← get (codes "ramp") d >>= at_most GREATEST_LEN
  if is_int p then Some (ramp_records p len) else None

-- a list of values and nulls, or so many numbers from 0 on
unfoldable pub primitive_by : Data → Option Valid → Option Column
primitive_by d stated = do
  p ← get (codes "type") d >>= as_str >>= ptype_named
  if is_closed (codes "layout" ∷ codes "type" ∷ codes "values" ∷ codes "validity" ∷ []) d
      then get (codes "values") d >>= as_array >>= primitive_by_items p stated
      else if is_closed (codes "layout" ∷ codes "type" ∷ codes "ramp" ∷ codes "validity" ∷ []) d
      then (ramp_listed p d >>= λ records. primitive_made p records (validity_alone stated))
      else None
