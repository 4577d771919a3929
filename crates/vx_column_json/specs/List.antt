-- What a JSON value means as a column of layout `List`.
use Rattle.std.specs.Prelude.{[], ◌∷◌, if◌then◌else◌, Option, Some, None, codes}
use Rattle.serde_json.specs.Data.{Data}
use Rattle.vx_types.specs.declared.ptype.PType.TheVariants.{I64}
use Rattle.vx_model.specs.Column.{Column}
use Rattle.vx_model.specs.List.{ListParts, list_fault, list_column}
use Rattle.vx_model.specs.Records.{RecordParts}
use Rattle.vx_model.specs.Valid.{Valid}
use Rattle.vx_json.specs.Meaning.{◌>>=◌}
use Rattle.vx_json.specs.Members.{is_closed}
use Rattle.vx_column_json.specs.Made.{made}
use Rattle.vx_column_json.specs.Offsets.{offset_type_of, offsets_in}

abbrev pub list_parts : Column → RecordParts → Valid → ListParts
list_parts elements offsets valid =
    record { elements = elements; offsets = offsets; valid = valid }

-- these parts, where the offsets can cut the elements, and where the validity can be theirs
abbrev pub list_made : Column → RecordParts → Valid → Option ListParts
list_made elements offsets valid = made list_fault (λ p. p) (list_parts elements offsets valid)

unfoldable pub list_by_offsets : Column → Valid → Data → Option ListParts
list_by_offsets elements valid d = do
  ptype ← offset_type_of I64 d
  offsets ← offsets_in ptype (codes "offsets") d
  list_made elements offsets valid

-- elements, and offsets of the stated type, or else of type `i64`
unfoldable pub list_array : Data → Column → Valid → Option ListParts
list_array d elements valid =
    if is_closed (codes "layout" ∷ codes "offsets" ∷ codes "offset_type" ∷ codes "elements"
    ∷ codes "validity" ∷ []) d
    then list_by_offsets elements valid d
    else None

-- the column of them; it doesn't tell the offsets
unfoldable pub list_by : Data → Column → Valid → Option Column
list_by d elements valid = list_array d elements valid >>= λ p. Some (list_column p)
