-- What a JSON value means as a column of layout `Union`.
use Rattle.std.specs.Prelude.{ℕ, List, [], ◌∷◌, if◌then◌else◌, Option, Some, None, codes}
use Rattle.serde_json.specs.Data.{Data}
use Rattle.serde_json.specs.Find.{get, as_str, as_array}
use Rattle.vx_types.specs.FieldTypes.{VariantTypes}
use Rattle.vx_types.specs.Variants.{variants_fault}
use Rattle.vx_types.specs.declared.ptype.PType.TheVariants.{I32}
use Rattle.vx_model.specs.Column.{Column}
use Rattle.vx_model.specs.Columns.{types_in}
use Rattle.vx_model.specs.Records.{RecordParts}
use Rattle.vx_model.specs.Union.{UnionParts, union_fault, union_column}
use Rattle.vx_column.specs.UnionParts.{union_parts}
use Rattle.vx_json.specs.Items.{each}
use Rattle.vx_json.specs.Meaning.{◌>>=◌}
use Rattle.vx_json.specs.Members.{if_closed, is_closed}
use Rattle.vx_json.specs.Wholes.{at_most}
use Rattle.vx_column_json.specs.Made.{made}
use Rattle.vx_column_json.specs.Offsets.{offset_type_of, offsets_in}

-- ---- its variants

-- a variant is an object of an id and a name
unfoldable pub variant_id : Data → Option ℕ
variant_id d = do
  o ← if_closed (codes "id" ∷ codes "name" ∷ []) d
  get (codes "id") o >>= at_most 255

unfoldable pub variant_name : Data → Option (List ℕ)
variant_name d = get (codes "name") d >>= as_str

-- ids and names beside the columns' types
abbrev pub variants_named : List ℕ → List (List ℕ) → List Column → VariantTypes
variants_named ids names columns = record { ids = ids; names = names; types = types_in columns }

-- ids and names beside the columns' types, where there is one of each for a column, and no id
-- occurs twice
abbrev pub variants_made : List ℕ → List (List ℕ) → List Column → Option VariantTypes
variants_made ids names columns = made variants_fault (λ v. v) (variants_named ids names columns)

unfoldable pub variants_in : Data → List Column → Option VariantTypes
variants_in d columns = do
  items ← get (codes "variants") d >>= as_array
  ids ← each variant_id items
  names ← each variant_name items
  variants_made ids names columns

-- ---- its offsets

unfoldable pub offsets_of_rows : Data → Option RecordParts
offsets_of_rows d = offset_type_of I32 d >>= λ ptype. offsets_in ptype (codes "offsets") d

-- offsets, of a type that may be stated beside them alone, or none
unfoldable pub offsets_stated : Data → Option (Option RecordParts)
offsets_stated d =
    if is_closed (codes "layout" ∷ codes "type_ids" ∷ codes "variants" ∷ codes "children" ∷ []) d
    then Some None
    else if is_closed (codes "layout" ∷ codes "type_ids" ∷ codes "variants" ∷ codes "children"
    ∷ codes "offsets" ∷ codes "offset_type" ∷ []) d
    then (offsets_of_rows d >>= λ offsets. Some (Some offsets))
    else None

-- ---- the column

-- these parts, dense where there are offsets, where they can make a union
abbrev pub union_made : Column → Option RecordParts → VariantTypes → List Column → Option UnionParts
union_made ids offsets variants columns =
    made union_fault (λ p. p) (union_parts ids offsets variants columns)

-- type ids, variants, children, and offsets where they are stated
unfoldable pub union_array : Data → Column → List Column → Option UnionParts
union_array d ids columns = do
  offsets ← offsets_stated d
  variants ← variants_in d columns
  union_made ids offsets variants columns

-- the column of them; of the offsets it tells the type alone
unfoldable pub union_by : Data → Column → List Column → Option Column
union_by d ids columns = union_array d ids columns >>= λ p. Some (union_column p)
