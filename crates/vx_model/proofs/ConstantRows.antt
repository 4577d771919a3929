-- One value at picks.
use Rattle.std.proofs.Common.{◌≡◌, ℕ, zero, suc, true, false, List, [], ◌∷◌, map, length, get_or, Option, None, Some, refl, sym, ap, ap₂, ◌∙◌, arith}
use Rattle.std.specs.Prelude.{is_some, replicate}
use Rattle.std.proofs.lemmas.List.{get_or-replicate, length-replicate}
use Rattle.vx_types.specs.RowValue.{RowValue, null, bit, bytes, list, fields, tagged, is_null}
use Rattle.vx_types.specs.Scalar.{scalar_fault}
use Rattle.vx_types.specs.TypeTree.{TypeKind, TypeTree, null_kind, also_nullable, is_carried_as, nullability_as, with_nullability}
use Rattle.vx_types.specs.Nullability.{is_nullable}
use Rattle.vx_types.specs.declared.nullability.Nullability.{Nullability}
use Rattle.vx_types.specs.declared.nullability.Nullability.TheVariants.{NonNullable, Nullable}
use Rattle.vx_take.specs.Picks.{AreBelow, at}
use Rattle.vx_model.specs.Column.{Column}
use Rattle.vx_model.specs.Valid.{is_yes, shown_rows}
use Rattle.vx_model.specs.Constant.{ConstantParts, constant_column, constant_with}
use Rattle.vx_model.specs.Step.{IsTake}
use Rattle.vx_model.proofs.Nullabilities.{with_nullability-nullable}
use Rattle.vx_model.proofs.Scalars.{scalar_null, scalar_carried}
use Rattle.vx_model.proofs.ShownRows.{none_shown, shown_rows-all}
use Rattle.vx_model.proofs.Takes.{all_there, none_there}
use Rattle.vx_lemmas.proofs.Lists.{map-replicate}

-- ---- the bits of a bool

pub set_at-picks : (n : ℕ) (row : RowValue) (picks : List (Option ℕ)) → is_yes row ≡ true → AreBelow picks n → map is_some picks ≡ at false (map is_yes (replicate n row)) picks
set_at-picks n row picks h below =
    all_there n picks below ∙ ap (λ bits. at false bits picks) (ap (replicate n) (sym h) ∙ sym (map-replicate is_yes n row))

pub clear_at-picks : (n : ℕ) (row : RowValue) (picks : List (Option ℕ)) → is_yes row ≡ false → replicate (length picks) false ≡ at false (map is_yes (replicate n row)) picks
clear_at-picks n row picks h =
    sym (none_there n picks) ∙ ap (λ bits. at false bits picks) (ap (replicate n) (sym h) ∙ sym (map-replicate is_yes n row))

-- ---- takes

-- a null stays null
pub null_at-picks : (n : ℕ) (picks : List (Option ℕ)) → replicate (length picks) null ≡ at null (replicate n null) picks
null_at-picks n [] = refl
null_at-picks n (None ∷ picks) = ap (λ l. null ∷ l) (null_at-picks n picks)
null_at-picks n (Some p ∷ picks) = ap₂ ◌∷◌ (null_in n p) (null_at-picks n picks)
  where
    null_in : (n p : ℕ) → null ≡ get_or (replicate n null) p null
    null_in zero p = refl
    null_in (suc n) zero = refl
    null_in (suc n) (suc p) = null_in n p

-- a value stays itself where a pick is there
pub shown_at-picks : (n : ℕ) (row : RowValue) (picks : List (Option ℕ)) → AreBelow picks n → shown_rows (map is_some picks) (replicate (length picks) row) ≡ at null (replicate n row) picks
shown_at-picks n row [] below = refl
shown_at-picks n row (None ∷ picks) below = ap (λ l. null ∷ l) (shown_at-picks n row picks (λ k d l. below (suc k) d (omega arith)))
shown_at-picks n row (Some p ∷ picks) below =
    ap₂ ◌∷◌ (sym (get_or-replicate n p row null (below zero None (omega arith)))) (shown_at-picks n row picks (λ k d l. below (suc k) d (omega arith)))

-- a take of a null value
pub is_take-null_constant : (p : ConstantParts) (picks : List (Option ℕ)) (n : Nullability) → p.scalar.row ≡ null → also_nullable p.scalar.dtype n ≡ p.scalar.dtype → IsTake (constant_column p) picks n (constant_column (constant_with p (length picks)))
is_take-null_constant p picks n h t =
    record {
      rows = ap (replicate (length picks)) h ∙ null_at-picks p.len picks ∙ ap (λ x. at null (replicate p.len x) picks) (sym h);
      dtype = sym t;
      layout = λ e. let no : false ≡ true = e in cc;
      unwrapped = λ e. let no : false ≡ true = e in cc;
      direct = λ h. let no : true ≡ false = h in cc;
      form = refl;
    }

-- a take of a value that is stored for each pick
pub is_take-stored_constant : (p : ConstantParts) (picks : List (Option ℕ)) (n : Nullability) (a : Column) → AreBelow picks p.len → a.rows ≡ shown_rows (map is_some picks) (replicate (length picks) p.scalar.row) → a.dtype ≡ also_nullable p.scalar.dtype n → a.dense ≡ None → IsTake (constant_column p) picks n a
is_take-stored_constant p picks n a below rows t form =
    record {
      rows = rows ∙ shown_at-picks p.len p.scalar.row picks below;
      dtype = t;
      layout = λ e. let no : false ≡ true = e in cc;
      unwrapped = λ e. let no : false ≡ true = e in cc;
      direct = λ h. let no : true ≡ false = h in cc;
      form = form;
    }

-- ---- nulls

pub null_is : (x : RowValue) → is_null x ≡ true → x ≡ null
null_is null h = refl
null_is (bit b) h = cc
null_is (bytes b) h = cc
null_is (list xs) h = cc
null_is (fields xs) h = cc
null_is (tagged n x) h = cc

pub nullable_scalar : (t : TypeTree) (x : RowValue) → scalar_fault t x ≡ None → x ≡ null → is_nullable t.nullability ≡ true
nullable_scalar t x h e = scalar_null t (ap (scalar_fault t) (sym e) ∙ h)

-- all of them shown, or none of nulls
pub all_shown : (n : ℕ) (row : RowValue) → shown_rows (replicate n true) (replicate n row) ≡ replicate n row
all_shown n row = shown_rows-all n (replicate n row) (length-replicate n row)

pub nulls_shown : (n : ℕ) (row : RowValue) → row ≡ null → shown_rows (replicate n false) (replicate n row) ≡ replicate n row
nulls_shown n row h = none_shown n (replicate n row) (length-replicate n row) ∙ ap (replicate n) (sym h)

-- the type of a scalar with its own nullability is the type
pub own_nullable : (t : TypeTree) → t.nullability ≡ Nullable → with_nullability t Nullable ≡ t
own_nullable t h = with_nullability-nullable t (ap is_nullable h)

own_kind : (k : TypeKind) → is_carried_as k NonNullable ≡ true → nullability_as k NonNullable ≡ NonNullable
own_kind null_kind h = cc
own_kind k h = refl

pub own_non_nullable : (t : TypeTree) (x : RowValue) → scalar_fault t x ≡ None → t.nullability ≡ NonNullable → with_nullability t NonNullable ≡ t
own_non_nullable t x f h =
    let carried : is_carried_as t.kind NonNullable ≡ true = rw h at (scalar_carried t x f) in
    let same : nullability_as t.kind NonNullable ≡ t.nullability = own_kind t.kind carried ∙ sym h in
    ap (λ (n : Nullability). let u : TypeTree = record { kind = t.kind; nullability = n } in u) same

-- what a proof about a null constant needs
pub ruleset nulls = (null_is, nullable_scalar, own_nullable, own_non_nullable, all_shown, nulls_shown)
