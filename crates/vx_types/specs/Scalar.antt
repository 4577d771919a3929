-- What a `ScalarValue` and a `Scalar` stand for.
use Rattle.std.specs.Prelude.{ℕ, ◌==◌, ◌&&◌, Bool, true, false, List, length, Option, Some, None, if◌then◌else◌, refl}
use Rattle.std.specs.Coded.{Coded, code_by, coded×}
use Rattle.vx_types.specs.RowValue.{RowValue, null, bit, bytes}
use Rattle.vx_types.specs.RowValueCode.{coded_row}
use Rattle.vx_types.specs.Nullability.{is_nullable}
use Rattle.vx_types.specs.TypeTree.{TypeKind, TypeTree, primitive_kind, decimal_kind, utf8_kind, binary_kind, is_bool_kind, is_flat_kind, type_width}
use Rattle.vx_types.specs.TypeTreeCode.{coded_type}
use Rattle.vx_types.specs.declared.error.ColumnError.{ColumnError}
use Rattle.vx_types.specs.declared.error.ColumnError.TheVariants.{WrongType, WrongWidth}
use Rattle.vx_types.specs.declared.scalar.ScalarValue.{ScalarValue}
use Rattle.vx_types.specs.declared.scalar.ScalarValue.TheVariants as scalars

abbrev pub scalar_row : ScalarValue → RowValue
scalar_row scalars.Null = null
scalar_row (scalars.Bit b) = bit b
scalar_row (scalars.Bytes b) = bytes b

-- text or other bytes
abbrev pub is_text_kind : TypeKind → Bool
is_text_kind utf8_kind = true
is_text_kind binary_kind = true
is_text_kind k = false

-- rows are null, a bit or bytes
abbrev pub has_scalars : TypeKind → Bool
has_scalars k = if is_flat_kind k then true else is_text_kind k

-- bytes are a row of this kind
abbrev pub is_of_bytes : TypeKind → Bool
is_of_bytes (primitive_kind p) = true
is_of_bytes (decimal_kind p s w) = true
is_of_bytes k = is_text_kind k

-- a row is of the type's kind, or a null of a nullable type
abbrev pub is_of_kind : TypeTree → RowValue → Bool
is_of_kind t null = has_scalars t.kind && is_nullable t.nullability
is_of_kind t (bit b) = is_bool_kind t.kind
is_of_kind t (bytes b) = is_of_bytes t.kind
is_of_kind t x = false

-- so many bytes are as many as the type says, where it says so
abbrev pub is_width_of : Option ℕ → List ℕ → Bool
is_width_of None b = true
is_width_of (Some w) b = length b == w

abbrev pub is_as_wide : TypeTree → RowValue → Bool
is_as_wide t (bytes b) = is_width_of (type_width t) b
is_as_wide t x = true

-- why a row is no value of the type, the first that holds
abbrev pub scalar_fault : TypeTree → RowValue → Option ColumnError
scalar_fault t x =
    if is_of_kind t x then (if is_as_wide t x then None else Some WrongWidth) else Some WrongType

-- what a contract sees of a `Scalar`
pub record TypedRow : Type 0 where
  pub dtype : TypeTree
  pub row : RowValue

abbrev pub coded_typed_row : Coded TypedRow
coded_typed_row =
    code_by (TypeTree × RowValue) (coded× coded_type coded_row) (λ s. (s.dtype, s.row))
    (λ f. record { dtype = f.0; row = f.1 }) (λ _. refl)
