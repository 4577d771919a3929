-- What a JSON value means as a column of layout `Decimal`.
use Rattle.std.specs.Prelude.{ℕ, List, [], ◌∷◌, if◌then◌else◌, Option, None, codes}
use Rattle.serde_json.specs.Data.{Data}
use Rattle.serde_json.specs.Find.{get, as_array}
use Rattle.vx_types.specs.Decimal.{DecimalValue}
use Rattle.vx_types.specs.TypeTree.{decimal_kind}
use Rattle.vx_model.specs.Column.{Column}
use Rattle.vx_model.specs.Valid.{Valid}
use Rattle.vx_model.specs.Records.{RecordParts, records_fault, records_column}
use Rattle.vx_json.specs.Meaning.{◌>>=◌}
use Rattle.vx_json.specs.Members.{is_closed}
use Rattle.vx_json.specs.Items.{each}
use Rattle.vx_json.specs.Decimals.{decimal_of}
use Rattle.vx_json.specs.Values.{hex_or_zero}
use Rattle.vx_column_json.specs.Made.{made}
use Rattle.vx_column_json.specs.Validity.{validity_beside}

abbrev pub decimal_parts : DecimalValue → List (List ℕ) → Valid → RecordParts
decimal_parts t records valid =
    record {
      kind = decimal_kind t.precision t.scale t.width;
      width = t.width;
      records = records;
      valid = valid;
    }

-- the column of these records, where the validity can be theirs
abbrev pub decimal_made : DecimalValue → List (List ℕ) → Valid → Option Column
decimal_made t records valid = made records_fault records_column (decimal_parts t records valid)

-- a list of records and nulls
unfoldable pub decimal_by_values : Option Valid → Data → Option Column
decimal_by_values stated d = do
  decimal ← decimal_of d
  items ← get (codes "values") d >>= as_array
  valid ← validity_beside stated items
  records ← each (hex_or_zero decimal.width) items
  decimal_made decimal records valid

unfoldable pub decimal_by : Data → Option Valid → Option Column
decimal_by d stated =
    if is_closed (codes "layout" ∷ codes "precision" ∷ codes "scale" ∷ codes "width"
    ∷ codes "values" ∷ codes "validity" ∷ []) d
    then decimal_by_values stated d
    else None
