-- What a scalar's type says of its value.
use Rattle.std.proofs.Common.{◌≡◌, ℕ, length, arith, Bool, true, false, List, None, Some, refl}
use Rattle.std.specs.Prelude.{◌==◌, replicate, if◌then◌else◌}
use Rattle.std.proofs.lemmas.Bool.Decides.{nat_tests}
use Rattle.std.proofs.lemmas.List.{length-replicate}
use Rattle.vx_types.specs.PType.{width}
use Rattle.vx_types.specs.declared.nullability.Nullability.TheVariants.{NonNullable, Nullable}
use Rattle.vx_model.specs.Filler.{filler_row}
use Rattle.vx_types.specs.Nullability.{is_nullable}
use Rattle.vx_types.specs.RowValue.{RowValue, null, bit, bytes, list, fields, tagged}
use Rattle.vx_types.specs.Scalar.{has_scalars, is_of_kind, is_of_bytes, is_as_wide, is_width_of, scalar_fault}
use Rattle.vx_types.specs.TypeTree.{TypeKind, TypeTree, null_kind, bool_kind, primitive_kind, decimal_kind, utf8_kind, binary_kind, is_bool_kind, is_carried, is_carried_as, type_width}
use Rattle.vx_types.specs.declared.nullability.Nullability.{Nullability}
use Rattle.vx_types.specs.declared.error.ColumnError.TheVariants.{WrongType, WrongWidth}
use Rattle.std.specs.Cmp.{first_so, second_so}

kind_of : (a b : Bool) → (if a then (if b then None else Some WrongWidth) else Some WrongType) ≡ None → a ≡ true
kind_of true b h = refl
kind_of false b h = cc

wide_of : (a b : Bool) → (if a then (if b then None else Some WrongWidth) else Some WrongType) ≡ None → b ≡ true
wide_of true true h = refl
wide_of true false h = cc
wide_of false b h = cc

pub scalar_null : (t : TypeTree) → scalar_fault t null ≡ None → is_nullable t.nullability ≡ true
scalar_null t h = second_so (has_scalars t.kind) _ (kind_of _ (is_as_wide t null) h)

pub scalar_bit : (t : TypeTree) (b : Bool) → scalar_fault t (bit b) ≡ None → is_bool_kind t.kind ≡ true
scalar_bit t b h = kind_of _ (is_as_wide t (bit b)) h

pub scalar_bytes-kind : (t : TypeTree) (b : List ℕ) → scalar_fault t (bytes b) ≡ None → is_of_bytes t.kind ≡ true
scalar_bytes-kind t b h = kind_of _ (is_as_wide t (bytes b)) h

pub scalar_bytes-width : (t : TypeTree) (b : List ℕ) → scalar_fault t (bytes b) ≡ None → is_width_of (type_width t) b ≡ true
scalar_bytes-width t b h = wide_of (is_of_kind t (bytes b)) _ h

-- a type of scalars is one that a column may have, and nullable if it is the null type
carried_scalar : (k : TypeKind) (n : Nullability) (x : RowValue) → let t : TypeTree = record { kind = k; nullability = n } in is_of_kind t x ≡ true → is_carried t ≡ true
carried_scalar null_kind n null h = second_so true _ h
carried_scalar null_kind n (bit b) h = cc
carried_scalar null_kind n (bytes b) h = cc
carried_scalar null_kind n (list xs) h = cc
carried_scalar null_kind n (fields xs) h = cc
carried_scalar null_kind n (tagged i x) h = cc
carried_scalar bool_kind n x h = refl
carried_scalar (primitive_kind p) n x h = refl
carried_scalar (decimal_kind p s w) n x h = refl
carried_scalar utf8_kind n x h = refl
carried_scalar binary_kind n x h = refl
carried_scalar k n null h = cc
carried_scalar k n (bit b) h = cc
carried_scalar k n (bytes b) h = cc
carried_scalar k n (list xs) h = cc
carried_scalar k n (fields xs) h = cc
carried_scalar k n (tagged i x) h = cc

pub scalar_carried : (t : TypeTree) (x : RowValue) → scalar_fault t x ≡ None → is_carried t ≡ true
scalar_carried t x h = carried_scalar t.kind t.nullability x (kind_of _ (is_as_wide t x) h)

-- only types of scalars have them
scalars_of : (k : TypeKind) (n : Nullability) (x : RowValue) → let t : TypeTree = record { kind = k; nullability = n } in is_of_kind t x ≡ true → has_scalars k ≡ true
scalars_of k n null h = first_so (has_scalars k) _ h
scalars_of bool_kind n (bit b) h = refl
scalars_of k n (bit b) h = cc
scalars_of (primitive_kind p) n (bytes b) h = refl
scalars_of (decimal_kind p s w) n (bytes b) h = refl
scalars_of utf8_kind n (bytes b) h = refl
scalars_of binary_kind n (bytes b) h = refl
scalars_of k n (bytes b) h = cc
scalars_of k n (list xs) h = cc
scalars_of k n (fields xs) h = cc
scalars_of k n (tagged i x) h = cc

pub scalar_kind : (t : TypeTree) (x : RowValue) → scalar_fault t x ≡ None → has_scalars t.kind ≡ true
scalar_kind t x h = scalars_of t.kind t.nullability x (kind_of _ (is_as_wide t x) h)

as_many : (n : ℕ) → (length {A = ℕ} (replicate n 0) == n) ≡ true
as_many n =
    let zero : ℕ = 0 in
    let long : length {A = ℕ} (replicate n 0) ≡ n = length-replicate n zero in
    grind (arith, nat_tests)

-- what stands where no row is shown is a value of its type
pub scalar_filler : (t : TypeTree) → has_scalars t.kind ≡ true → is_carried t ≡ true → scalar_fault t (filler_row t) ≡ None
scalar_filler t h k = by t.kind t.nullability h k
  where
    by : (k : TypeKind) (n : Nullability) → has_scalars k ≡ true → is_carried_as k n ≡ true → let t : TypeTree = record { kind = k; nullability = n } in scalar_fault t (filler_row t) ≡ None
    by k Nullable h l = rw h refl
    by null_kind NonNullable h l = cc
    by bool_kind NonNullable h l = refl
    by (primitive_kind p) NonNullable h l = rw (as_many (width p)) refl
    by (decimal_kind p s w) NonNullable h l = rw (as_many w) refl
    by utf8_kind NonNullable h l = refl
    by binary_kind NonNullable h l = refl
    by k NonNullable h l = cc

pub ruleset fillers = (scalar_filler)

pub ruleset scalar_kinds = (scalar_kind)

-- what a proof about a constant needs
pub ruleset scalars = (scalar_null, scalar_bit, scalar_bytes-kind, scalar_bytes-width, scalar_carried)
