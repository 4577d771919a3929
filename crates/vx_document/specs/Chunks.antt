-- What a JSON value means as a column behind a decoder: its shape, and its records.
use Rattle.std.specs.Prelude.{ℕ, ◌+◌, ◌-◌, ◌%◌, List, [], ◌∷◌, ◌++◌, length, replicate, nat_le, if◌then◌else◌, Option, Some, None, codes, bytes_eq}
use Rattle.serde_json.specs.Data.{Data, Items}
use Rattle.serde_json.specs.Find.{get, as_str, as_array}
use Rattle.vx_types.specs.PType.{width}
use Rattle.vx_types.specs.TypeTree.{TypeTree}
use Rattle.vx_types.specs.declared.ptype.PType.{PType}
use Rattle.vx_model.specs.Valid.{Valid, nullability_by}
use Rattle.vx_types.specs.RecordType.{kind_of}
use Rattle.vx_types.specs.declared.record_type.RecordType.{RecordType}
use Rattle.vx_types.specs.declared.record_type.RecordType.TheVariants.{Primitive, Decimal}
use Rattle.vx_steps.specs.Shape.{ShapeValue, shape_fault}
use Rattle.vx_json.specs.Meaning.{◌>>=◌, unless_fault}
use Rattle.vx_json.specs.Members.{is_closed}
use Rattle.vx_json.specs.Items.{each}
use Rattle.vx_json.specs.Bools.{has_null}
use Rattle.vx_json.specs.Decimals.{decimal_of}
use Rattle.vx_json.specs.Wholes.{at_most}
use Rattle.vx_json.specs.Values.{ptype_named, hex_or_zero}
use Rattle.vx_json.specs.declared.wholes.TheConstants.{GREATEST_LEN}
use Rattle.vx_column_json.specs.Validity.{validity_alone, validity_stated}
use Rattle.vx_column_json.specs.Primitive.{ramp_listed, values_there}
use Rattle.vx_document.specs.Columns.{inner_of}
use Rattle.vx_document.specs.Documents.{SourceValue, chunks_source}

-- ---- its records

unfoldable pub values_by : PType → Data → Option (List (List ℕ))
values_by p d =
    if is_closed (codes "type" ∷ codes "offset" ∷ codes "len" ∷ codes "values"
    ∷ codes "validity" ∷ []) d
    then values_there p (codes "values") d
    else if is_closed (codes "type" ∷ codes "offset" ∷ codes "len" ∷ codes "ramp"
    ∷ codes "validity" ∷ []) d
    then ramp_listed p d
    else None

-- records of so many bytes, none of them null
abbrev pub decimals_there : ℕ → Items → Option (List (List ℕ))
decimals_there w items = if has_null items then None else each (hex_or_zero w) items

unfoldable pub decimals_listed : ℕ → Data → Option (List (List ℕ))
decimals_listed w d = get (codes "values") d >>= as_array >>= decimals_there w

unfoldable pub decimals_by : ℕ → Data → Option (List (List ℕ))
decimals_by w d =
    if is_closed (codes "type" ∷ codes "precision" ∷ codes "scale" ∷ codes "width"
    ∷ codes "offset" ∷ codes "len" ∷ codes "values" ∷ codes "validity" ∷ []) d
    then decimals_listed w d
    else None

-- how many more fill up the last of the chunks of n values
abbrev pub fill_len : ℕ → ℕ
fill_len n = (1024 - n % 1024) % 1024

-- records of w bytes, and zeros behind them up to whole chunks
abbrev pub with_fill : ℕ → List (List ℕ) → List (List ℕ)
with_fill w records = records ++ replicate (fill_len (length records)) (replicate w 0)

-- ---- the column

abbrev pub shape : TypeTree → ℕ → ℕ → Valid → ShapeValue
shape t offset len valid = record { dtype = t; offset = offset; len = len; valid = valid }

-- the shape of these parts, where they can make one
unfoldable pub shape_made : TypeTree → ℕ → ℕ → Valid → Option ShapeValue
shape_made t offset len valid =
    unless_fault (shape_fault (shape t offset len valid)) (shape t offset len valid)

unfoldable pub shape_by : TypeTree → Valid → Data → Option ShapeValue
shape_by t valid d = do
  offset ← get (codes "offset") d >>= at_most 1023
  len ← get (codes "len") d >>= at_most GREATEST_LEN
  shape_made t offset len valid

-- the records, and zeros behind them up to whole chunks, where there are at least `least`
abbrev pub filled_from : ℕ → ℕ → List (List ℕ) → Option (List (List ℕ))
filled_from least w records =
    if nat_le least (length records) then Some (with_fill w records) else None

-- a shape over at least as many records of w bytes as it has
unfoldable pub chunks_made : ShapeValue → ℕ → List (List ℕ) → Option SourceValue
chunks_made s w records =
    if nat_le (s.offset + s.len) (length records)
    then Some (chunks_source s (with_fill w records))
    else None

-- how many bytes a record of the type has
unfoldable pub record_width : RecordType → ℕ
record_width (Primitive p) = width p
record_width (Decimal t) = t.width

-- the records of the type that an object lists
unfoldable pub records_by : RecordType → Data → Option (List (List ℕ))
records_by (Primitive p) d = values_by p d
records_by (Decimal t) d = decimals_by t.width d

unfoldable pub chunks_by : RecordType → Valid → Data → Option SourceValue
chunks_by t valid d = do
  s ← shape_by (record { kind = kind_of t; nullability = nullability_by valid }) valid d
  records ← records_by t d
  chunks_made s (record_width t) records

-- by the name of the type
unfoldable pub chunks_named : Valid → Data → List ℕ → Option SourceValue
chunks_named valid d name =
    if bytes_eq name (codes "decimal")
    then (decimal_of d >>= λ t. chunks_by (Decimal t) valid d)
    else (ptype_named name >>= λ p. chunks_by (Primitive p) valid d)

-- an object of a type, an offset, a length, values and perhaps a validity
unfoldable pub chunks_of : Data → Option SourceValue
chunks_of d = do
  stated ← validity_stated d (inner_of d)
  get (codes "type") d >>= as_str >>= chunks_named (validity_alone stated) d
