-- What a JSON value means as a column of layout `Struct`.
use Rattle.std.specs.Prelude.{ℕ, List, [], ◌∷◌, Option, codes}
use Rattle.serde_json.specs.Data.{Data}
use Rattle.serde_json.specs.Find.{get}
use Rattle.vx_types.specs.FieldTypes.{FieldTypes}
use Rattle.vx_types.specs.Fields.{fields_fault}
use Rattle.vx_model.specs.Column.{Column}
use Rattle.vx_model.specs.Columns.{types_in}
use Rattle.vx_model.specs.Struct.{StructParts, struct_fault, struct_column}
use Rattle.vx_model.specs.Valid.{Valid}
use Rattle.vx_json.specs.Meaning.{◌>>=◌}
use Rattle.vx_json.specs.Members.{if_closed}
use Rattle.vx_json.specs.Texts.{names_of}
use Rattle.vx_json.specs.Wholes.{at_most}
use Rattle.vx_json.specs.declared.wholes.TheConstants.{GREATEST_LEN}
use Rattle.vx_column_json.specs.Made.{made}

-- the fields' names beside their columns' types
abbrev pub fields_named : List (List ℕ) → List Column → FieldTypes
fields_named names columns = record { names = names; types = types_in columns }

-- the fields' names beside their columns' types, where there is a name for each
abbrev pub fields_made : List (List ℕ) → List Column → Option FieldTypes
fields_made names columns = made fields_fault (λ f. f) (fields_named names columns)

abbrev pub struct_parts : FieldTypes → List Column → ℕ → Valid → StructParts
struct_parts fields columns len valid =
    record { columns = columns; types = fields; len = len; valid = valid }

-- the column of these fields, where each has as many rows, and where the validity can be its
abbrev pub struct_made : FieldTypes → List Column → ℕ → Valid → Option Column
struct_made fields columns len valid =
    made struct_fault struct_column (struct_parts fields columns len valid)

unfoldable pub struct_by : Data → List Column → Valid → Option Column
struct_by d columns valid = do
  o ←
      if_closed
      (codes "layout" ∷ codes "len" ∷ codes "names" ∷ codes "fields" ∷ codes "validity" ∷ []) d
  len ← get (codes "len") o >>= at_most GREATEST_LEN
  names ← get (codes "names") o >>= names_of
  fields ← fields_made names columns
  struct_made fields columns len valid
