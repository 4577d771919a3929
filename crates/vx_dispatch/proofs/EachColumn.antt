-- Steps over columns one by one.
use Rattle.std.proofs.Common.{◌≡◌, ℕ, zero, suc, ◌+◌, ◌<◌, Bool, true, false, List, [], ◌∷◌, ◌++◌, length, take, get_or, slice_range, Option, None, Some, refl, sym, ap, subst, ◌∙◌, arith}
use Rattle.std.specs.Prelude.{IfSome, if◌then◌else◌}
use Rattle.std.specs.List.{items_where_true}
use Rattle.std.proofs.lemmas.List.{take_more}
use Rattle.std.proofs.lemmas.List.Elements.{All-cons, All-nil}
use Rattle.vx_mask.specs.Mask.{mask_bits}
use Rattle.vx_mask.specs.MaskValues.{PartialMask, keep_indices}
use Rattle.vx_mask.specs.Reuse.{mask_for_reuse, wants_indices}
use Rattle.vx_mask.specs.declared.mask.Mask.{Mask}
use Rattle.vx_mask.specs.declared.mask.Mask.TheVariants.{Values}
use Rattle.vx_mask.specs.declared.policy.PolicyFields.{PolicyFields}
use Rattle.vx_types.specs.RowValue.{RowValue, null}
use Rattle.vx_types.specs.declared.nullability.Nullability.TheVariants.{NonNullable}
use Rattle.vx_take.specs.Picks.{AreBelow, at}
use Rattle.vx_model.specs.Column.{Column}
use Rattle.vx_model.specs.Columns.{AreCuts, AreSteps, firsts_for_nulls}
use Rattle.vx_model.specs.Step.{IsCut, IsSlice, IsStep, IsTake}
use Rattle.vx_model.proofs.Across.{long-get, shallow-get}
use Rattle.vx_model.proofs.Nullabilities.{also_nullable-none}
use Rattle.vx_model.proofs.Columns.{columns_all}

-- ---- one more column

cuts_append : (f : List RowValue → List RowValue) (cs xs : List Column) (c x : Column) → AreCuts f cs xs → IsCut c (f c.rows) x → AreCuts f (cs ++ c ∷ []) (xs ++ x ∷ [])
cuts_append f [] [] c x h cut = (cut, tt)
cuts_append f [] (y ∷ xs) c x h cut = absurd h
cuts_append f (b ∷ cs) [] c x h cut = absurd h
cuts_append f (b ∷ cs) (y ∷ xs) c x h cut = (h.0, cuts_append f cs xs c x h.1 cut)

steps_append : (f : List RowValue → List RowValue) (cs xs : List Column) (c x : Column) → AreSteps f cs xs → IsStep c (f c.rows) c.dtype x → AreSteps f (cs ++ c ∷ []) (xs ++ x ∷ [])
steps_append f [] [] c x h step = (step, tt)
steps_append f [] (y ∷ xs) c x h step = absurd h
steps_append f (b ∷ cs) [] c x h step = absurd h
steps_append f (b ∷ cs) (y ∷ xs) c x h step = (h.0, steps_append f cs xs c x h.1 step)

cuts_more : (f : List RowValue → List RowValue) (cs : List Column) (k : ℕ) (c : Column) (xs : List Column) (x : Column) → k < length cs → c ≡ get_or cs k c → AreCuts f (take k cs) xs → IsCut c (f c.rows) x → AreCuts f (take (k + 1) cs) (xs ++ x ∷ [])
cuts_more f cs k c xs x l is h cut =
    let more : take (k + 1) cs ≡ take k cs ++ c ∷ [] = take_more cs k c l ∙ ap (λ (d : Column). take k cs ++ d ∷ []) (sym is) in
    rw more (cuts_append f (take k cs) xs c x h cut)

steps_more : (f : List RowValue → List RowValue) (cs : List Column) (k : ℕ) (c : Column) (xs : List Column) (x : Column) → k < length cs → c ≡ get_or cs k c → AreSteps f (take k cs) xs → IsStep c (f c.rows) c.dtype x → AreSteps f (take (k + 1) cs) (xs ++ x ∷ [])
steps_more f cs k c xs x l is h step =
    let more : take (k + 1) cs ≡ take k cs ++ c ∷ [] = take_more cs k c l ∙ ap (λ (d : Column). take k cs ++ d ∷ []) (sym is) in
    rw more (steps_append f (take k cs) xs c x h step)

pub slices_more : (s e : ℕ) (cs : List Column) (k : ℕ) (c : Column) (xs : List Column) (x : Column) → k < length cs → c ≡ get_or cs k c → AreCuts (λ rows. slice_range rows s e) (take k cs) xs → IsSlice c s e x → AreCuts (λ rows. slice_range rows s e) (take (k + 1) cs) (xs ++ x ∷ [])
slices_more s e cs k c xs x l is h cut = cuts_more (λ rows. slice_range rows s e) cs k c xs x l is h cut

pub filters_more : (mask : List Bool) (cs : List Column) (k : ℕ) (c : Column) (xs : List Column) (x : Column) → k < length cs → c ≡ get_or cs k c → AreCuts (items_where_true mask) (take k cs) xs → IsCut c (items_where_true mask c.rows) x → AreCuts (items_where_true mask) (take (k + 1) cs) (xs ++ x ∷ [])
filters_more mask cs k c xs x l is h cut = cuts_more (items_where_true mask) cs k c xs x l is h cut

pub takes_more : (picks : List (Option ℕ)) (cs : List Column) (k : ℕ) (c : Column) (xs : List Column) (x : Column) → k < length cs → c ≡ get_or cs k c → AreSteps (λ rows. at null rows picks) (take k cs) xs → IsTake c picks NonNullable x → AreSteps (λ rows. at null rows picks) (take (k + 1) cs) (xs ++ x ∷ [])
takes_more picks cs k c xs x l is h taken =
    steps_more (λ rows. at null rows picks) cs k c xs x l is h
    (subst (λ t. IsStep c (at null c.rows picks) t x) (also_nullable-none c.dtype) taken)

pub same_more : (cs : List Column) (k : ℕ) (c : Column) (xs : List Column) (x : Column) → k < length cs → c ≡ get_or cs k c → AreSteps (λ rows. rows) (take k cs) xs → IsStep c c.rows c.dtype x → AreSteps (λ rows. rows) (take (k + 1) cs) (xs ++ x ∷ [])
same_more cs k c xs x l is h step = steps_more (λ rows. rows) cs k c xs x l is h step

pub ruleset each_column = (columns_all, long-get, shallow-get)

-- ---- a mask that is ready for many consumers selects the same

pub bits-prepared : (m : PartialMask) (consumers : ℕ) (fields : PolicyFields) → mask_bits (mask_for_reuse (Values m) consumers fields) ≡ m.bits.bits
bits-prepared m consumers fields = by (wants_indices m consumers fields)
  where
    by : (wanted : Bool) → mask_bits (Values (if wanted then keep_indices m else m)) ≡ m.bits.bits
    by true = refl
    by false = refl

-- the cuts by one, of columns that are known to be these
pub cuts_ready : (m : PartialMask) (consumers : ℕ) (fields : PolicyFields) {mask : PartialMask} {ready : Mask} {given cs : List Column} (xs : List Column) → ready ≡ mask_for_reuse (Values m) consumers fields → m ≡ mask → given ≡ cs → AreCuts (items_where_true (mask_bits ready)) given xs → AreCuts (items_where_true mask.bits.bits) cs xs
cuts_ready m consumers fields {mask} {ready} {given} {cs} xs made is same cuts =
    let bits : mask_bits ready ≡ mask.bits.bits = ap mask_bits made ∙ bits-prepared m consumers fields ∙ ap (λ (k : PartialMask). k.bits.bits) is in
    subst (λ k. AreCuts (items_where_true k) cs xs) bits (subst (λ l. AreCuts (items_where_true (mask_bits ready)) l xs) same cuts)

-- ---- the first position in place of each null

pub below-firsts : (picks : List (Option ℕ)) (n : ℕ) → 0 < n → AreBelow picks n → AreBelow (firsts_for_nulls picks) n
below-firsts [] n some below = All-nil (λ (pick : Option ℕ). IfSome pick (λ p. p < n))
below-firsts (None ∷ picks) n some below =
    All-cons (λ (pick : Option ℕ). IfSome pick (λ p. p < n)) (Some 0) (firsts_for_nulls picks) some
    (below-firsts picks n some (λ j e m. below (suc j) e (omega arith)))
below-firsts (Some p ∷ picks) n some below =
    All-cons (λ (pick : Option ℕ). IfSome pick (λ q. q < n)) (Some p) (firsts_for_nulls picks) (below zero None (omega arith))
    (below-firsts picks n some (λ j e m. below (suc j) e (omega arith)))
