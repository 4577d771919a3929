-- What a take leaves of a layout's parts makes what it leaves of the column.
use Rattle.std.proofs.Common.{◌≡◌, ℕ, zero, suc, Bool, true, false, List, [], ◌∷◌, map, length, get_or, Option, None, Some, refl, sym, ap, ap₂, ◌∙◌, arith}
use Rattle.std.specs.Prelude.{if◌then◌else◌, is_some, replicate}
use Rattle.std.specs.List.{list_all}
use Rattle.std.proofs.lemmas.List.{length-map, get_or-replicate}
use Rattle.std.proofs.lemmas.Bool.Decides.{nat_tests}
use Rattle.std.proofs.Math.ListN.{get_or-map}
use Rattle.vx_types.specs.Nullability.{either_nullable}
use Rattle.vx_types.specs.TypeTree.{bool_kind, bool_type}
use Rattle.vx_types.specs.RowValue.{RowValue, null, bit, bytes}
use Rattle.vx_types.specs.declared.nullability.Nullability.{Nullability}
use Rattle.vx_types.specs.declared.nullability.Nullability.TheVariants.{Nullable}
use Rattle.vx_take.specs.Picks.{AreBelow, at, item_at}
use Rattle.vx_model.specs.Valid.{Valid, non_nullable, all_valid, all_invalid, by_column, is_yes, is_fitting, is_non_null_bool, nullability_by, present_bits, shown_rows, stored_rows, IsLeft}
use Rattle.vx_model.specs.Null.{null_column}
use Rattle.vx_model.specs.Bool.{BoolParts, stored_bits, bool_fault, bool_column, bool_with, bits_column}
use Rattle.vx_model.specs.Records.{RecordParts, stored_records, records_fault, records_column, records_with}
use Rattle.vx_model.specs.Step.{IsStep, IsTake}
use Rattle.vx_model.proofs.ShownRows.{length-present_bits, shown_rows-all}
use Rattle.vx_model.proofs.StoredRows.{is_step-stored}
use Rattle.vx_model.proofs.Layouts.{length-bool, fits-bits, fits-records}

-- ---- lists at picks

pub length-at : {X : Type 0} (missing : X) (items : List X) (picks : List (Option ℕ)) → length (at missing items picks) ≡ length picks
length-at missing items picks = length-map picks (item_at missing items)

-- how many items a take leaves
pub ruleset taken_items = (length-at)

item-map : {X Y : Type 0} (f : X → Y) (missing : X) (items : List X) (pick : Option ℕ) → f (item_at missing items pick) ≡ item_at (f missing) (map f items) pick
item-map f missing items None = refl
item-map f missing items (Some p) = sym (get_or-map f items p missing)

-- what is made of the items at picks is what is made of the items, at the picks
pub map-at : {X Y : Type 0} (f : X → Y) (missing : X) (items : List X) (picks : List (Option ℕ)) → map f (at missing items picks) ≡ at (f missing) (map f items) picks
map-at f missing items [] = refl
map-at f missing items (pick ∷ picks) = ap₂ ◌∷◌ (item-map f missing items pick) (map-at f missing items picks)

-- ---- shown rows

shown_at : (bits : List Bool) (rows : List RowValue) (x : RowValue) (p : ℕ) → length bits ≡ length rows → (if get_or bits p false then get_or rows p x else null) ≡ get_or (shown_rows bits rows) p null
shown_at [] [] x p h = refl
shown_at [] (y ∷ rows) x p h = absurd (omega arith)
shown_at (b ∷ bits) [] x p h = absurd (omega arith)
shown_at (b ∷ bits) (y ∷ rows) x zero h = refl
shown_at (b ∷ bits) (y ∷ rows) x (suc p) h = shown_at bits rows x p (omega arith)

shown_pick : (bits : List Bool) (rows : List RowValue) (x : RowValue) (pick : Option ℕ) → length bits ≡ length rows → (if item_at false bits pick then item_at x rows pick else null) ≡ item_at null (shown_rows bits rows) pick
shown_pick bits rows x None h = refl
shown_pick bits rows x (Some p) h = shown_at bits rows x p h

-- rows at picks, of which each is there where its bit is set and the pick is no null
pub at-shown_rows : (bits : List Bool) (rows : List RowValue) (x : RowValue) (picks : List (Option ℕ)) → length bits ≡ length rows → shown_rows (at false bits picks) (at x rows picks) ≡ at null (shown_rows bits rows) picks
at-shown_rows bits rows x [] h = refl
at-shown_rows bits rows x (pick ∷ picks) h = ap₂ ◌∷◌ (shown_pick bits rows x pick h) (at-shown_rows bits rows x picks h)

-- items that are made of others, and a validity that fits these
module _ {X : Type 0} (f : X → RowValue) (missing : X) (items : List X) (v w : Valid) (n : Nullability) (fit : is_fitting v (length (map f items)) ≡ true) (picks : List (Option ℕ)) where
  pub take-stored : IsLeft v n (at false (present_bits v (length (map f items))) picks) w → stored_rows w (map f (at missing items picks)) ≡ at null (stored_rows v (map f items)) picks
  take-stored left =
      let bits = present_bits v (length (map f items)) in
      let long : length (map f (at missing items picks)) ≡ length (at false bits picks) =
      length-map (at missing items picks) f ∙ length-at missing items picks ∙ sym (length-at false bits picks) in
      ap (λ m. shown_rows (present_bits w m) (map f (at missing items picks))) long
      ∙ ap₂ shown_rows left.bits (map-at f missing items picks)
      ∙ at-shown_rows bits (map f items) (f missing) picks (length-present_bits v (length (map f items)) fit)

-- ---- each layout

-- what is missing where all items are, however many there are
at-missing : {X : Type 0} (missing : X) (m : ℕ) (picks : List (Option ℕ)) → at missing (replicate m missing) picks ≡ replicate (length picks) missing
at-missing missing m [] = refl
at-missing missing m (None ∷ picks) = ap (λ l. missing ∷ l) (at-missing missing m picks)
at-missing missing m (Some p ∷ picks) = ap₂ ◌∷◌ (any m p) (at-missing missing m picks)
  where
    any : (m p : ℕ) → get_or (replicate m missing) p missing ≡ missing
    any zero p = refl
    any (suc m) zero = refl
    any (suc m) (suc p) = any m p

pub is_take-null : (m : ℕ) (picks : List (Option ℕ)) (n : Nullability) → IsTake (null_column m) picks n (null_column (length picks))
is_take-null m picks n =
    record { rows = sym (at-missing null m picks); dtype = refl; layout = λ _. refl; unwrapped = λ h. h; direct = λ h. h; form = refl }

module _ (w : Valid) (picks : List (Option ℕ)) (n : Nullability) where
  pub is_take-bool : (p : BoolParts) (offset : ℕ) → bool_fault p ≡ None → IsLeft p.valid n (at false (present_bits p.valid (length (stored_bits p).items)) picks) w → IsStep (bool_column p) (at null (bool_column p).rows picks) (record { kind = bool_kind; nullability = n }) (bool_column (bool_with (at false p.bits.bits picks) offset w))
  is_take-bool p offset h left =
      is_step-stored (stored_bits p) w _ _ _ _ _ (take-stored bit false p.bits.bits p.valid w _ (fits-bits p h) picks left) left

  pub is_take-records : (p : RecordParts) (missing : List ℕ) → records_fault p ≡ None → IsLeft p.valid n (at false (present_bits p.valid (length (stored_records p).items)) picks) w → IsStep (records_column p) (at null (records_column p).rows picks) (record { kind = p.kind; nullability = n }) (records_column (records_with p (at missing p.records picks) w))
  is_take-records p missing h left =
      is_step-stored (stored_records p) w _ _ _ _ _ (take-stored bytes missing p.records p.valid w _ (fits-records p h) picks left) left

-- ---- the validity

yes_bits : (bits : List Bool) → map is_yes (map bit bits) ≡ bits
yes_bits [] = refl
yes_bits (b ∷ bits) = ap (λ l. b ∷ l) (yes_bits bits)

rows-bits_column : (bits : List Bool) (offset : ℕ) → (bits_column bits offset).rows ≡ map bit bits
rows-bits_column bits offset = shown_rows-all _ (map bit bits) refl

-- a validity that is the column of these bits has them
pub is_left-bits_column : (v : Valid) (bits : List Bool) (offset : ℕ) (n : Nullability) → n ≡ Nullable → IsLeft v n bits (by_column (bits_column bits offset))
is_left-bits_column v bits offset n e =
    let rows = rows-bits_column bits offset in
    let long : length (bits_column bits offset).rows ≡ length bits = ap length rows ∙ length-map bits bit in
    record {
      bits = ap (map is_yes) rows ∙ yes_bits bits;
      fitting = grind (arith, nat_tests);
      nullability = sym e;
      flat = λ _. refl;
    }

non_null_valid : (v : Valid) → is_non_null_bool (bool_type (nullability_by v)) ≡ true → v ≡ non_nullable
non_null_valid non_nullable h = refl
non_null_valid all_valid h = cc
non_null_valid all_invalid h = cc
non_null_valid (by_column c) h = cc

-- the bits of a column of layout `Bool` that has no null
pub yes-bool : (p : BoolParts) → is_non_null_bool (bool_column p).dtype ≡ true → map is_yes (bool_column p).rows ≡ p.bits.bits
yes-bool p h =
    ap (λ v. map is_yes (stored_rows v (map bit p.bits.bits))) (non_null_valid p.valid h)
    ∙ ap (map is_yes) (shown_rows-all _ (map bit p.bits.bits) refl)
    ∙ yes_bits p.bits.bits

-- what a proof about the bits of such a column needs
pub ruleset bool_bits = (length-bool, yes-bool)

-- the picks that are not null, of rows that are all valid
pub all_there : (m : ℕ) (picks : List (Option ℕ)) → AreBelow picks m → map is_some picks ≡ at false (replicate m true) picks
all_there m [] h = refl
all_there m (None ∷ picks) h = ap (λ l. false ∷ l) (all_there m picks (λ k d l. h (suc k) d (omega arith)))
all_there m (Some p ∷ picks) h =
    ap₂ ◌∷◌ (sym (get_or-replicate m p true false (h zero None (omega arith)))) (all_there m picks (λ k d l. h (suc k) d (omega arith)))

pub none_there : (m : ℕ) (picks : List (Option ℕ)) → at false (replicate m false) picks ≡ replicate (length picks) false
none_there m picks = at-missing false m picks

-- where the picks are all there
each_there : (m : ℕ) (picks : List (Option ℕ)) → AreBelow picks m → list_all is_some picks ≡ true → at false (replicate m true) picks ≡ replicate (length picks) true
each_there m [] h k = refl
each_there m (None ∷ picks) h k = cc
each_there m (Some p ∷ picks) h k =
    ap₂ ◌∷◌ (get_or-replicate m p true false (h zero None (omega arith))) (each_there m picks (λ i d l. h (suc i) d (omega arith)) k)

-- a validity of one answer stays what it is where no pick is a null
module _ (n : Nullability) (m : ℕ) (picks : List (Option ℕ)) where
  pub is_left-take-none : IsLeft all_invalid (either_nullable Nullable n) (at false (replicate m false) picks) all_invalid
  is_left-take-none =
      record { bits = ap (λ k. replicate k false) (length-at false (replicate m false) picks) ∙ sym (none_there m picks); fitting = refl; nullability = refl; flat = λ h. h }

  pub is_left-take-all : (v : Valid) → ((k : ℕ) → present_bits v k ≡ replicate k true) → ((k : ℕ) → is_fitting v k ≡ true) → AreBelow picks m → list_all is_some picks ≡ true → IsLeft v (nullability_by v) (at false (replicate m true) picks) v
  is_left-take-all v all fits below there =
      record {
        bits = all _ ∙ ap (λ k. replicate k true) (length-at false (replicate m true) picks) ∙ sym (each_there m picks below there);
        fitting = fits _;
        nullability = refl;
        flat = λ h. h;
      }

-- what a take leaves of a validity, by the bits that it has
module _ (v w : Valid) (n : Nullability) (m : ℕ) (picks : List (Option ℕ)) where
  -- a column of them
  pub left_by_bits : (bits : List Bool) (offset : ℕ) → either_nullable (nullability_by v) n ≡ Nullable → bits ≡ at false (present_bits v m) picks → w ≡ by_column (bits_column bits offset) → IsLeft v (either_nullable (nullability_by v) n) (at false (present_bits v m) picks) w
  left_by_bits bits offset e b is = rw (← b, is) (is_left-bits_column v bits offset _ e)

  -- the same validity, where no pick is a null
  pub left_the_same : present_bits v m ≡ replicate m true → ((k : ℕ) → present_bits v k ≡ replicate k true) → ((k : ℕ) → is_fitting v k ≡ true) → either_nullable (nullability_by v) n ≡ nullability_by v → AreBelow picks m → list_all is_some picks ≡ true → w ≡ v → IsLeft v (either_nullable (nullability_by v) n) (at false (present_bits v m) picks) w
  left_the_same here all fits e below there is = rw (is, e, here) (is_left-take-all n m picks v all fits below there)

-- the rows that it shows
pub stored-bits_column : (bits : List Bool) (items : List RowValue) → stored_rows (by_column (bits_column bits 0)) items ≡ shown_rows bits items
stored-bits_column bits items = ap (λ bs. shown_rows bs items) (is_left-bits_column non_nullable bits 0 Nullable refl).bits
