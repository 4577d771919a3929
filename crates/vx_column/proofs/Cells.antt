-- A value's cell is one of a dictionary's type.
use Rattle.std.proofs.Common.{◌≡◌, ℕ, ◌<◌, Some, true, length, refl, arith}
use Rattle.std.proofs.lemmas.Bool.Decides.{nat_tests}
use Rattle.vx_model.specs.Valid.{Valid, non_nullable, all_valid, all_invalid, by_column, is_fitting}
use Rattle.vx_types.specs.Nullability.{is_nullable, either_nullable}
use Rattle.vx_types.specs.Scalar.{has_scalars}
use Rattle.vx_types.specs.TypeTree.{TypeKind, TypeTree, also_nullable, is_int_kind, kind_width, null_kind, bool_kind, primitive_kind, decimal_kind, utf8_kind, binary_kind}
use Rattle.vx_model.specs.Extension.{storage_kind}
use Rattle.vx_types.specs.declared.nullability.Nullability.{Nullability}
use Rattle.vx_types.specs.declared.nullability.Nullability.TheVariants.{NonNullable, Nullable}
use Rattle.vx_column.specs.declared.cell.Cell.{Cell}
use Rattle.vx_column.specs.declared.cell.Cell.TheVariants as cells
use Rattle.vx_column.specs.Cell.{HasRow, IsOfType}
use Rattle.vx_model.proofs.Nullabilities.{nullable-either}

either_there : (m n : Nullability) → is_nullable n ≡ true → is_nullable (either_nullable m n) ≡ true
either_there NonNullable n h = h
either_there Nullable n h = refl

pub of_type-also : (cell : Cell) (t : TypeTree) (n : Nullability) → IsOfType cell t → IsOfType cell (also_nullable t n)
of_type-also cells.Null t n h = nullable-either t.nullability n h
of_type-also (cells.Bit b) t n h = h
of_type-also (cells.Bytes b) t n h = record { kind = h.kind; width = h.width }
of_type-also (cells.List l) t n h = record { kind = h.kind; ordered = h.ordered; within = h.within }
of_type-also (cells.Fields f) t n h = record { kind = h.kind; within = h.within }
of_type-also (cells.Tagged v) t n h = record { kind = h.kind; within = h.within }

-- a null code is one of a nullable type
pub null_code : (t : TypeTree) (n : Nullability) → is_nullable n ≡ true → is_nullable (also_nullable t n).nullability ≡ true
null_code t n h = either_there t.nullability n h

pub ruleset dict_cells = (of_type-also, null_code)

-- a validity that fits has each row
pub has_row : (v : Valid) (n i : ℕ) → is_fitting v n ≡ true → i < n → HasRow v i
has_row non_nullable n i h l = tt
has_row all_valid n i h l = tt
has_row all_invalid n i h l = tt
has_row (by_column c) n i h l =
    let same : length c.rows ≡ n = grind (arith, nat_tests) in
    omega (arith, l, same)

pub ruleset there = (has_row)

-- ---- types that are no extensions

pub stored-width : (k : TypeKind) (w : ℕ) → kind_width k ≡ Some w → storage_kind k ≡ k
stored-width (primitive_kind p) w h = refl
stored-width (decimal_kind p s v) w h = refl
stored-width k w h = cc

pub stored-int : (k : TypeKind) → is_int_kind k ≡ true → storage_kind k ≡ k
stored-int (primitive_kind p) h = refl
stored-int k h = cc

pub stored-scalars : (k : TypeKind) → has_scalars k ≡ true → storage_kind k ≡ k
stored-scalars null_kind h = refl
stored-scalars bool_kind h = refl
stored-scalars (primitive_kind p) h = refl
stored-scalars (decimal_kind p s w) h = refl
stored-scalars utf8_kind h = refl
stored-scalars binary_kind h = refl
stored-scalars k h = cc

pub ruleset stored = (stored-width, stored-int, stored-scalars)
