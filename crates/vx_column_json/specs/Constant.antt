-- What a JSON value means as a column of layout `Constant`.
use Rattle.std.specs.Prelude.{ℕ, List, [], ◌∷◌, Bool, true, false, if◌then◌else◌, Option, Some, None, codes, bytes_eq}
use Rattle.serde_json.specs.Data.{Data}
use Rattle.serde_json.specs.Find.{get, as_str, as_bool}
use Rattle.vx_types.specs.declared.nullability.Nullability.{Nullability}
use Rattle.vx_types.specs.declared.nullability.Nullability.TheVariants.{NonNullable, Nullable}
use Rattle.vx_types.specs.PType.{width}
use Rattle.vx_types.specs.TypeTree.{TypeKind, TypeTree, bool_kind, primitive_kind, decimal_kind, utf8_kind, binary_kind, null_type, bool_type, primitive_type, decimal_type}
use Rattle.vx_types.specs.Text.{text_kind}
use Rattle.vx_types.specs.declared.text.TextKind.{TextKind}
use Rattle.vx_types.specs.declared.text.TextKind.TheVariants.{Utf8, Binary}
use Rattle.vx_types.specs.RowValue.{RowValue, null, bit, bytes}
use Rattle.vx_types.specs.Scalar.{scalar_fault}
use Rattle.vx_model.specs.Column.{Column}
use Rattle.vx_model.specs.Constant.{ConstantParts, constant_column}
use Rattle.vx_json.specs.Meaning.{◌>>=◌, found_or, unless_fault}
use Rattle.vx_json.specs.Members.{is_closed}
use Rattle.vx_json.specs.Bools.{is_there}
use Rattle.vx_json.specs.Decimals.{decimal_of}
use Rattle.vx_json.specs.Wholes.{at_most}
use Rattle.vx_json.specs.Texts.{text_or_empty}
use Rattle.vx_json.specs.Values.{ptype_named, value_or_zero, hex_or_zero}
use Rattle.vx_json.specs.declared.wholes.TheConstants.{GREATEST_LEN}

-- ---- its type

-- null rows are allowed: as the object says, or else as is usual
unfoldable pub nullable_or : Bool → Data → Option Bool
nullable_or usual d = found_or usual as_bool (get (codes "nullable") d)

unfoldable pub nullability_of : Data → Option Nullability
nullability_of d = do
  nullable ← nullable_or false d
  Some (if nullable then Nullable else NonNullable)

-- nulls alone, which the object must allow where it says anything
unfoldable pub null_typed : Data → Option TypeTree
null_typed d = do
  nullable ← nullable_or true d
  if nullable then Some null_type else None

unfoldable pub decimal_typed : Data → Option TypeTree
decimal_typed d = do
  decimal ← decimal_of d
  nullability ← nullability_of d
  Some (decimal_type decimal.precision decimal.scale decimal.width nullability)

unfoldable pub text_typed : TextKind → Data → Option TypeTree
text_typed kind d = do
  nullability ← nullability_of d
  Some (record { kind = text_kind kind; nullability = nullability })

-- the type of this name
unfoldable pub constant_type : List ℕ → Data → Option TypeTree
constant_type name d =
    if bytes_eq name (codes "null") then null_typed d
    else if bytes_eq name (codes "bool") then (nullability_of d >>= λ n. Some (bool_type n))
    else if bytes_eq name (codes "decimal") then decimal_typed d
    else if bytes_eq name (codes "utf8") then text_typed Utf8 d
    else if bytes_eq name (codes "binary") then text_typed Binary d
    else (ptype_named name >>= λ p. nullability_of d >>= λ n. Some (primitive_type p n))

-- ---- its value

-- a value that isn't null
abbrev pub value_in : TypeKind → Data → Option RowValue
value_in bool_kind d = as_bool d >>= λ b. Some (bit b)
value_in (primitive_kind p) d = value_or_zero (width p) p d >>= λ b. Some (bytes b)
value_in (decimal_kind p s w) d = hex_or_zero w d >>= λ b. Some (bytes b)
value_in utf8_kind d = text_or_empty Utf8 d >>= λ b. Some (bytes b)
value_in binary_kind d = text_or_empty Binary d >>= λ b. Some (bytes b)
value_in k d = None

-- a value of the type, or `null`
unfoldable pub row_in : TypeTree → Data → Option RowValue
row_in t d = if is_there d then value_in t.kind d else Some null

-- ---- the column

abbrev pub constant_parts : TypeTree → RowValue → ℕ → ConstantParts
constant_parts t x len = record { scalar = record { dtype = t; row = x }; len = len }

-- so many rows of this value, where it is one of the type
unfoldable pub constant_made : TypeTree → RowValue → ℕ → Option Column
constant_made t x len =
    unless_fault (scalar_fault t x) (constant_column (constant_parts t x len))

unfoldable pub constant_by_type : TypeTree → Data → Option Column
constant_by_type t d = do
  row ← get (codes "value") d >>= row_in t
  len ← get (codes "len") d >>= at_most GREATEST_LEN
  constant_made t row len

-- the members that an object with a type of this name may have
unfoldable pub is_constant_closed : List ℕ → Data → Bool
is_constant_closed name d =
    if bytes_eq name (codes "decimal")
    then is_closed (codes "layout" ∷ codes "type" ∷ codes "precision" ∷ codes "scale"
    ∷ codes "width" ∷ codes "nullable" ∷ codes "value" ∷ codes "len" ∷ []) d
    else is_closed (codes "layout" ∷ codes "type" ∷ codes "nullable" ∷ codes "value"
    ∷ codes "len" ∷ []) d

unfoldable pub constant_named : Data → List ℕ → Option Column
constant_named d name =
    if is_constant_closed name d
    then (constant_type name d >>= λ t. constant_by_type t d)
    else None

unfoldable pub constant_by : Data → Option Column
constant_by d = get (codes "type") d >>= as_str >>= constant_named d
