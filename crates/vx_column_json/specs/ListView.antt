-- What a JSON value means as a column of layout `ListView`.
use Rattle.std.specs.Prelude.{[], ◌∷◌, if◌then◌else◌, Option, Some, None, codes}
use Rattle.serde_json.specs.Data.{Data}
use Rattle.vx_types.specs.declared.ptype.PType.TheVariants.{I64}
use Rattle.vx_model.specs.Column.{Column}
use Rattle.vx_model.specs.ListView.{ListViewParts, listview_fault, listview_column}
use Rattle.vx_model.specs.Records.{RecordParts}
use Rattle.vx_model.specs.Valid.{Valid}
use Rattle.vx_json.specs.Meaning.{◌>>=◌}
use Rattle.vx_json.specs.Members.{is_closed}
use Rattle.vx_column_json.specs.Made.{made}
use Rattle.vx_column_json.specs.Offsets.{offset_type_of, offsets_in}

abbrev pub listview_parts : Column → RecordParts → RecordParts → Valid → ListViewParts
listview_parts elements offsets sizes valid =
    record { elements = elements; offsets = offsets; sizes = sizes; valid = valid }

-- these parts, where so many elements from each offset on are there, and where the validity can be
-- theirs
abbrev pub listview_made : Column → RecordParts → RecordParts → Valid → Option ListViewParts
listview_made elements offsets sizes valid =
    made listview_fault (λ p. p) (listview_parts elements offsets sizes valid)

-- the offsets and the sizes have one type
unfoldable pub listview_by_offsets : Column → Valid → Data → Option ListViewParts
listview_by_offsets elements valid d = do
  ptype ← offset_type_of I64 d
  offsets ← offsets_in ptype (codes "offsets") d
  sizes ← offsets_in ptype (codes "sizes") d
  listview_made elements offsets sizes valid

-- elements, and offsets and sizes of the stated type, or else of type `i64`
unfoldable pub listview_array : Data → Column → Valid → Option ListViewParts
listview_array d elements valid =
    if is_closed (codes "layout" ∷ codes "offsets" ∷ codes "sizes" ∷ codes "offset_type"
    ∷ codes "elements" ∷ codes "validity" ∷ []) d
    then listview_by_offsets elements valid d
    else None

-- the column of them; it doesn't tell the offsets
unfoldable pub listview_by : Data → Column → Valid → Option Column
listview_by d elements valid =
    listview_array d elements valid >>= λ p. Some (listview_column p)
