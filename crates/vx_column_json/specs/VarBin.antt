-- What a JSON value means as a column of layout `VarBin`.
use Rattle.std.specs.Prelude.{ℕ, List, [], ◌∷◌, if◌then◌else◌, Option, Some, None, codes}
use Rattle.serde_json.specs.Data.{Data, Items}
use Rattle.serde_json.specs.Find.{get, as_str, as_array}
use Rattle.vx_types.specs.declared.ptype.PType.TheVariants.{I32}
use Rattle.vx_types.specs.declared.text.TextKind.{TextKind}
use Rattle.vx_model.specs.Column.{Column}
use Rattle.vx_model.specs.Records.{RecordParts}
use Rattle.vx_model.specs.Valid.{Valid}
use Rattle.vx_model.specs.VarBin.{VarBinParts, varbin_fault, varbin_column}
use Rattle.vx_json.specs.Meaning.{◌>>=◌}
use Rattle.vx_json.specs.Members.{is_closed}
use Rattle.vx_json.specs.Items.{each}
use Rattle.vx_json.specs.Texts.{text_kind_named, text_or_empty, bytes_of, strung}
use Rattle.vx_column_json.specs.Made.{made}
use Rattle.vx_column_json.specs.Offsets.{offsets_column, offset_type_of, offsets_in}
use Rattle.vx_column_json.specs.Validity.{validity_alone, validity_beside}

abbrev pub varbin_parts : TextKind → RecordParts → List ℕ → Valid → VarBinParts
varbin_parts kind offsets text valid =
    record { kind = kind; offsets = offsets; bytes = text; valid = valid }

-- these parts, where the offsets can cut the texts, and where the validity can be theirs
abbrev pub varbin_made : TextKind → RecordParts → List ℕ → Valid → Option VarBinParts
varbin_made kind offsets text valid =
    made varbin_fault (λ p. p) (varbin_parts kind offsets text valid)

-- a list of texts and nulls, by offsets of type `i32` from 0 on
unfoldable pub varbin_by_items : TextKind → Option Valid → Items → Option VarBinParts
varbin_by_items kind stated items = do
  valid ← validity_beside stated items
  texts ← each (text_or_empty kind) items >>= strung
  varbin_made kind (offsets_column I32 texts.0) texts.1 valid

-- offsets, and the texts one behind another
unfoldable pub varbin_by_offsets : TextKind → Option Valid → Data → Option VarBinParts
varbin_by_offsets kind stated d = do
  ptype ← offset_type_of I32 d
  offsets ← offsets_in ptype (codes "offsets") d
  text ← get (codes "bytes") d >>= bytes_of
  varbin_made kind offsets text (validity_alone stated)

-- offsets, which a list of texts has of type `i32`, and texts
unfoldable pub varbin_array : Data → Option Valid → Option VarBinParts
varbin_array d stated = do
  kind ← get (codes "type") d >>= as_str >>= text_kind_named
  if is_closed (codes "layout" ∷ codes "type" ∷ codes "values" ∷ codes "validity" ∷ []) d
      then get (codes "values") d >>= as_array >>= varbin_by_items kind stated
      else if is_closed (codes "layout" ∷ codes "type" ∷ codes "offsets" ∷ codes "offset_type"
      ∷ codes "bytes" ∷ codes "validity" ∷ []) d
      then varbin_by_offsets kind stated d
      else None

-- the column of them; it doesn't tell the offsets
unfoldable pub varbin_by : Data → Option Valid → Option Column
varbin_by d stated = varbin_array d stated >>= λ p. Some (varbin_column p)
