-- The numbers of a dictionary's codes, and what a step leaves of them.
use Rattle.std.proofs.Common.{◌≡◌, ℕ, zero, suc, ◌-◌, Bool, true, false, List, [], ◌∷◌, map, get_or, take, drop, slice_range, Option, None, Some, refl, ap₂, ◌∙◌}
use Rattle.std.specs.Prelude.{ℤ}
use Rattle.std.specs.List.{items_where_true}
use Rattle.std.specs.Option.{option_or}
use Rattle.vx_types.specs.TypeTree.{TypeTree}
use Rattle.vx_types.specs.RowValue.{RowValue, null}
use Rattle.vx_types.specs.declared.nullability.Nullability.{Nullability}
use Rattle.vx_take.specs.Picks.{at, item_at}
use Rattle.vx_positions.specs.Positions.{bad_number, first_bad}
use Rattle.vx_model.specs.Column.{Column}
use Rattle.vx_model.specs.Numbers.{number_in, numbers_of}
use Rattle.vx_model.specs.Step.{IsStep, IsCut, IsSlice, IsTake}
use Rattle.vx_model.proofs.Items.{map-items_where_true, map-slice_range}
use Rattle.vx_model.proofs.Takes.{map-at}

-- the numbers of what a cut leaves
numbers_of-cut : (c : Column) (left : List RowValue) (a : Column) → IsStep c left c.dtype a → numbers_of a ≡ map (number_in c.dtype.kind) left
numbers_of-cut c left a step = ap₂ (λ (t : TypeTree) rows. map (number_in t.kind) rows) step.dtype step.rows

pub numbers_of-slice : (c : Column) (s e : ℕ) (a : Column) → IsSlice c s e a → numbers_of a ≡ slice_range (numbers_of c) s e
numbers_of-slice c s e a cut = numbers_of-cut c _ a cut.step ∙ map-slice_range (number_in c.dtype.kind) c.rows s e

pub numbers_of-filter : (c : Column) (mask : List Bool) (a : Column) → IsCut c (items_where_true mask c.rows) a → numbers_of a ≡ items_where_true mask (numbers_of c)
numbers_of-filter c mask a cut = numbers_of-cut c _ a cut.step ∙ map-items_where_true (number_in c.dtype.kind) mask c.rows

pub numbers_of-take : (c : Column) (picks : List (Option ℕ)) (n : Nullability) (a : Column) → IsTake c picks n a → numbers_of a ≡ at None (numbers_of c) picks
numbers_of-take c picks n a step =
    ap₂ (λ (t : TypeTree) rows. map (number_in t.kind) rows) step.dtype step.rows
    ∙ map-at (number_in c.dtype.kind) null c.rows picks

-- ---- no number is bad

module _ (n : ℕ) where
  option_or-none : (x rest : Option ℤ) → option_or x rest ≡ None → (x ≡ None) × (rest ≡ None)
  option_or-none None rest h = (refl, h)
  option_or-none (Some z) rest h = cc

  option_or-both : (x rest : Option ℤ) → x ≡ None → rest ≡ None → option_or x rest ≡ None
  option_or-both x rest h k = rw (h, k) refl

  first_bad-take : (k : ℕ) (xs : List (Option ℤ)) → first_bad n xs ≡ None → first_bad n (take k xs) ≡ None
  first_bad-take zero xs h = refl
  first_bad-take (suc k) [] h = refl
  first_bad-take (suc k) (x ∷ xs) h =
      let parts = option_or-none (bad_number n x) (first_bad n xs) h in
      option_or-both (bad_number n x) (first_bad n (take k xs)) parts.0 (first_bad-take k xs parts.1)

  first_bad-drop : (k : ℕ) (xs : List (Option ℤ)) → first_bad n xs ≡ None → first_bad n (drop k xs) ≡ None
  first_bad-drop zero xs h = h
  first_bad-drop (suc k) [] h = refl
  first_bad-drop (suc k) (x ∷ xs) h = first_bad-drop k xs (option_or-none (bad_number n x) (first_bad n xs) h).1

  -- in a slice
  pub first_bad-slice : (xs : List (Option ℤ)) (s e : ℕ) → first_bad n xs ≡ None → first_bad n (slice_range xs s e) ≡ None
  first_bad-slice xs s e h = first_bad-take (e - s) (drop s xs) (first_bad-drop s xs h)

  -- among those that a filter keeps
  pub first_bad-filter : (mask : List Bool) (xs : List (Option ℤ)) → first_bad n xs ≡ None → first_bad n (items_where_true mask xs) ≡ None
  first_bad-filter [] xs h = refl
  first_bad-filter (b ∷ mask) [] h = refl
  first_bad-filter (true ∷ mask) (x ∷ xs) h =
      let parts = option_or-none (bad_number n x) (first_bad n xs) h in
      option_or-both (bad_number n x) (first_bad n (items_where_true mask xs)) parts.0 (first_bad-filter mask xs parts.1)
  first_bad-filter (false ∷ mask) (x ∷ xs) h = first_bad-filter mask xs (option_or-none (bad_number n x) (first_bad n xs) h).1

  bad_number-at : (xs : List (Option ℤ)) (p : ℕ) → first_bad n xs ≡ None → bad_number n (get_or xs p None) ≡ None
  bad_number-at [] p h = refl
  bad_number-at (x ∷ xs) zero h = (option_or-none (bad_number n x) (first_bad n xs) h).0
  bad_number-at (x ∷ xs) (suc p) h = bad_number-at xs p (option_or-none (bad_number n x) (first_bad n xs) h).1

  bad_number-pick : (xs : List (Option ℤ)) (pick : Option ℕ) → first_bad n xs ≡ None → bad_number n (item_at None xs pick) ≡ None
  bad_number-pick xs None h = refl
  bad_number-pick xs (Some p) h = bad_number-at xs p h

  -- among those at picks
  pub first_bad-picks : (xs : List (Option ℤ)) (picks : List (Option ℕ)) → first_bad n xs ≡ None → first_bad n (at None xs picks) ≡ None
  first_bad-picks xs [] h = refl
  first_bad-picks xs (pick ∷ picks) h =
      option_or-both (bad_number n (item_at None xs pick)) (first_bad n (at None xs picks)) (bad_number-pick xs pick h) (first_bad-picks xs picks h)
