-- What a `ChunkShape` stands for.
use Rattle.std.specs.Prelude.{ℕ, ◌+◌, ◌^◌, ◌&&◌, nat_le, nat_lt, is_some, Bool, true, false, Option, Some, None, if◌then◌else◌, refl}
use Rattle.std.specs.Coded.{Coded, code_by, coded×, coded_ℕ}
use Rattle.vx_types.specs.DType.{type_of}
use Rattle.vx_types.specs.Same.{is_same_nullability}
use Rattle.vx_types.specs.TypeTree.{TypeTree, type_width}
use Rattle.vx_types.specs.TypeTreeCode.{coded_type}
use Rattle.vx_types.specs.declared.dtype.DType.{DType}
use Rattle.vx_types.specs.declared.error.ColumnError.{ColumnError}
use Rattle.vx_types.specs.declared.error.ColumnError.TheVariants.{WrongType, BadValidity, TooLong}
use Rattle.vx_model.specs.Valid.{Valid, is_fitting, nullability_by}
use Rattle.vx_model.specs.ValidCode.{coded_valid}
use Rattle.vx_column.specs.Validity.{valid_of}
use Rattle.vx_column.specs.declared.validity.Validity.{Validity}

-- what a contract sees of a `ChunkShape`
pub record ShapeValue : Type 0 where
  pub dtype : TypeTree
  pub offset : ℕ
  pub len : ℕ
  pub valid : Valid

abbrev pub shape_of : DType → ℕ → ℕ → Validity → ShapeValue
shape_of dtype offset len validity =
    record { dtype = type_of dtype; offset = offset; len = len; valid = valid_of validity }

-- values have a width, and there may be nulls just where the validity may have some
abbrev pub is_stored_as : TypeTree → Valid → Bool
is_stored_as t v =
    is_some (type_width t) && is_same_nullability t.nullability (nullability_by v)

-- the first value lies in the first chunk, and a `usize` counts the values up to the last
abbrev pub is_counted : ℕ → ℕ → Bool
is_counted offset len = nat_le offset 1023 && nat_lt (offset + len) (2 ^ 64)

-- why they are no shape, the first that holds
abbrev pub shape_fault : ShapeValue → Option ColumnError
shape_fault s =
    if is_stored_as s.dtype s.valid then
    (if is_fitting s.valid s.len then
    (if is_counted s.offset s.len then None else Some TooLong)
    else Some BadValidity)
    else Some WrongType

-- ---- its code
abbrev pub coded_shape : Coded ShapeValue
coded_shape =
    code_by ((TypeTree × ℕ) × (ℕ × Valid))
    (coded× (coded× coded_type coded_ℕ) (coded× coded_ℕ coded_valid))
    (λ s. ((s.dtype, s.offset), (s.len, s.valid)))
    (λ f. record { dtype = f.0.0; offset = f.0.1; len = f.1.0; valid = f.1.1 })
    (λ _. refl)
