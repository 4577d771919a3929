-- Rows of which some are null.
use Rattle.std.proofs.Common.{◌≡◌, ℕ, zero, suc, ◌-◌, ◌≤◌, ◌<◌, Bool, true, false, List, [], ◌∷◌, length, map, get_or, take, drop, slice_range, refl, sym, ap, ◌∙◌, arith}
use Rattle.std.specs.Prelude.{if◌then◌else◌, replicate}
use Rattle.std.specs.List.{items_where_true}
use Rattle.std.proofs.lemmas.List.{length-replicate, length-map, get_or-replicate, get_or-map}
use Rattle.std.proofs.lemmas.Bool.Decides.{nat_tests}
use Rattle.vx_types.specs.RowValue.{RowValue, null}
use Rattle.vx_bits.specs.BitBuffer.{true_count_of}
use Rattle.vx_model.specs.Lists.{kept_lists}
use Rattle.vx_model.specs.Valid.{Valid, non_nullable, all_valid, all_invalid, by_column, is_yes, is_fitting, is_constant_form, cover_by, is_present, present_bits, nullability_by, shown_rows, stored_rows, IsAsPlain, IsLeft}
use Rattle.vx_mask.proofs.RangeCounts.{slice_range-replicate}
use Rattle.vx_model.proofs.Items.{items_where_true-replicate, length-slice_range}
use Rattle.vx_mask.proofs.RankedItems.{length-items_where_true}

pub length-shown_rows : (bits : List Bool) (rows : List RowValue) → length bits ≡ length rows → length (shown_rows bits rows) ≡ length rows
length-shown_rows [] [] h = refl
length-shown_rows [] (x ∷ rows) h = absurd (omega arith)
length-shown_rows (b ∷ bits) [] h = absurd (omega arith)
length-shown_rows (b ∷ bits) (x ∷ rows) h = omega (arith, length-shown_rows bits rows (omega arith))

pub take-shown_rows : (n : ℕ) (bits : List Bool) (rows : List RowValue) → take n (shown_rows bits rows) ≡ shown_rows (take n bits) (take n rows)
take-shown_rows zero bits rows = refl
take-shown_rows (suc n) [] rows = refl
take-shown_rows (suc n) (b ∷ bits) [] = refl
take-shown_rows (suc n) (b ∷ bits) (x ∷ rows) = ap (λ l. (if b then x else null) ∷ l) (take-shown_rows n bits rows)

shown_rows-nil : (bits : List Bool) → shown_rows bits [] ≡ []
shown_rows-nil [] = refl
shown_rows-nil (b ∷ bits) = refl

pub drop-shown_rows : (n : ℕ) (bits : List Bool) (rows : List RowValue) → drop n (shown_rows bits rows) ≡ shown_rows (drop n bits) (drop n rows)
drop-shown_rows zero bits rows = refl
drop-shown_rows (suc n) [] rows = refl
drop-shown_rows (suc n) (b ∷ bits) [] = sym (shown_rows-nil (drop n bits))
drop-shown_rows (suc n) (b ∷ bits) (x ∷ rows) = drop-shown_rows n bits rows

-- a slice of the rows is the slices' rows
pub slice_range-shown_rows : (bits : List Bool) (rows : List RowValue) (s e : ℕ) → slice_range (shown_rows bits rows) s e ≡ shown_rows (slice_range bits s e) (slice_range rows s e)
slice_range-shown_rows bits rows s e = ap (take (e - s)) (drop-shown_rows s bits rows) ∙ take-shown_rows (e - s) (drop s bits) (drop s rows)

-- the rows that a filter keeps
pub items_where_true-shown_rows : (mask bits : List Bool) (rows : List RowValue) → items_where_true mask (shown_rows bits rows) ≡ shown_rows (items_where_true mask bits) (items_where_true mask rows)
items_where_true-shown_rows [] bits rows = refl
items_where_true-shown_rows (m ∷ mask) [] rows = refl
items_where_true-shown_rows (m ∷ mask) (b ∷ bits) [] = sym (shown_rows-nil (items_where_true (m ∷ mask) (b ∷ bits)))
items_where_true-shown_rows (true ∷ mask) (b ∷ bits) (x ∷ rows) = ap (λ l. (if b then x else null) ∷ l) (items_where_true-shown_rows mask bits rows)
items_where_true-shown_rows (false ∷ mask) (b ∷ bits) (x ∷ rows) = items_where_true-shown_rows mask bits rows

-- where all are there, they are the rows
pub shown_rows-all : (n : ℕ) (rows : List RowValue) → length rows ≡ n → shown_rows (replicate n true) rows ≡ rows
shown_rows-all zero [] h = refl
shown_rows-all zero (x ∷ rows) h = absurd (omega arith)
shown_rows-all (suc n) [] h = absurd (omega arith)
shown_rows-all (suc n) (x ∷ rows) h = ap (λ l. x ∷ l) (shown_rows-all n rows (omega arith))

-- and where none is, they are nulls
pub none_shown : (n : ℕ) (rows : List RowValue) → length rows ≡ n → shown_rows (replicate n false) rows ≡ replicate n null
none_shown zero [] h = refl
none_shown zero (x ∷ rows) h = absurd (omega arith)
none_shown (suc n) [] h = absurd (omega arith)
none_shown (suc n) (x ∷ rows) h = ap (λ l. null ∷ l) (none_shown n rows (omega arith))

-- row i
pub get_or-shown_rows : (bits : List Bool) (rows : List RowValue) (i : ℕ) → length bits ≡ length rows → i < length rows → get_or (shown_rows bits rows) i null ≡ (if get_or bits i false then get_or rows i null else null)
get_or-shown_rows [] [] i h l = absurd (omega arith)
get_or-shown_rows [] (x ∷ rows) i h l = absurd (omega arith)
get_or-shown_rows (b ∷ bits) [] i h l = absurd (omega arith)
get_or-shown_rows (b ∷ bits) (x ∷ rows) zero h l = refl
get_or-shown_rows (b ∷ bits) (x ∷ rows) (suc i) h l = get_or-shown_rows bits rows i (omega arith) (omega arith)

-- a validity that fits n rows has a bit for each
pub length-present_bits : (v : Valid) (n : ℕ) → is_fitting v n ≡ true → length (present_bits v n) ≡ n
length-present_bits non_nullable n h = length-replicate n true
length-present_bits all_valid n h = length-replicate n true
length-present_bits all_invalid n h = length-replicate n false
length-present_bits (by_column c) n h =
    let same : length c.rows ≡ n = grind (arith, nat_tests) in
    length-map c.rows is_yes ∙ same

-- bit i says whether row i is valid
pub get_or-present_bits : (v : Valid) (n i : ℕ) → is_fitting v n ≡ true → i < n → get_or (present_bits v n) i false ≡ is_present v i
get_or-present_bits non_nullable n i h l = get_or-replicate n i true false l
get_or-present_bits all_valid n i h l = get_or-replicate n i true false l
get_or-present_bits all_invalid n i h l = get_or-replicate n i false false l
get_or-present_bits (by_column c) n i h l =
    let same : length c.rows ≡ n = grind (arith, nat_tests) in
    get_or-map is_yes c.rows i null false (omega arith)

-- a constant form gives the slice of its bits
pub slice_range-present_bits : (v : Valid) (n s e : ℕ) → is_constant_form (cover_by v) ≡ true → s ≤ e → e ≤ n → present_bits v (e - s) ≡ slice_range (present_bits v n) s e
slice_range-present_bits non_nullable n s e h k l = sym (slice_range-replicate n true s e k l)
slice_range-present_bits all_valid n s e h k l = sym (slice_range-replicate n true s e k l)
slice_range-present_bits all_invalid n s e h k l = sym (slice_range-replicate n false s e k l)
slice_range-present_bits (by_column c) n s e h k l = grind arith

-- and what a filter keeps of them
pub items_where_true-present_bits : (v : Valid) (mask : List Bool) → is_constant_form (cover_by v) ≡ true → present_bits v (true_count_of mask) ≡ items_where_true mask (present_bits v (length mask))
items_where_true-present_bits non_nullable mask h = sym (items_where_true-replicate mask true)
items_where_true-present_bits all_valid mask h = sym (items_where_true-replicate mask true)
items_where_true-present_bits all_invalid mask h = sym (items_where_true-replicate mask false)
items_where_true-present_bits (by_column c) mask h = grind arith

-- and fits any number of rows
pub is_fitting-constant : (v : Valid) (n : ℕ) → is_constant_form (cover_by v) ≡ true → is_fitting v n ≡ true
is_fitting-constant non_nullable n h = refl
is_fitting-constant all_valid n h = refl
is_fitting-constant all_invalid n h = refl
is_fitting-constant (by_column c) n h = grind arith

-- a constant form stays what it is: over a slice
pub is_left-slice : (v : Valid) (n s e : ℕ) → is_constant_form (cover_by v) ≡ true → s ≤ e → e ≤ n → is_fitting v n ≡ true → IsLeft v (nullability_by v) (slice_range (present_bits v n) s e) v
is_left-slice v n s e k h l f =
    let long : length (slice_range (present_bits v n) s e) ≡ e - s = length-slice_range (present_bits v n) s e h (omega (arith, length-present_bits v n f)) in
    record {
      bits = ap (present_bits v) long ∙ slice_range-present_bits v n s e k h l;
      fitting = is_fitting-constant v _ k;
      nullability = refl;
      flat = λ h. h;
    }

-- and over what a filter keeps
pub is_left-filter : (v : Valid) (mask : List Bool) → is_constant_form (cover_by v) ≡ true → is_fitting v (length mask) ≡ true → IsLeft v (nullability_by v) (items_where_true mask (present_bits v (length mask))) v
is_left-filter v mask k f =
    let long = length-items_where_true mask (present_bits v (length mask)) (sym (length-present_bits v (length mask) f)) in
    record {
      bits = ap (present_bits v) long ∙ items_where_true-present_bits v mask k;
      fitting = is_fitting-constant v _ k;
      nullability = refl;
      flat = λ h. h;
    }

pub is_as_plain : (v : Valid) → IsAsPlain v v
is_as_plain v = record { constant = λ h. h; depth = omega arith }

-- ---- rows made of lists, of which those behind a null are empty

module _ {X : Type 0} (f : List X → RowValue) where
  length-kept : (bits : List Bool) (lists : List (List X)) → length bits ≡ length lists → length (kept_lists bits lists) ≡ length lists
  length-kept [] [] h = refl
  length-kept [] (x ∷ lists) h = absurd (omega arith)
  length-kept (b ∷ bits) [] h = absurd (omega arith)
  length-kept (b ∷ bits) (x ∷ lists) h = omega (arith, length-kept bits lists (omega arith))

  shown-kept : (bits : List Bool) (lists : List (List X)) → shown_rows bits (map f (kept_lists bits lists)) ≡ shown_rows bits (map f lists)
  shown-kept [] lists = refl
  shown-kept (b ∷ bits) [] = refl
  shown-kept (true ∷ bits) (x ∷ lists) = ap (λ l. f x ∷ l) (shown-kept bits lists)
  shown-kept (false ∷ bits) (x ∷ lists) = ap (λ l. null ∷ l) (shown-kept bits lists)

  -- the list behind a null doesn't show
  pub rows-kept : (v : Valid) (lists : List (List X)) → length (present_bits v (length lists)) ≡ length lists → stored_rows v (map f (kept_lists (present_bits v (length lists)) lists)) ≡ stored_rows v (map f lists)
  rows-kept v lists h =
      let bits = present_bits v (length lists) in
      let kept = kept_lists bits lists in
      let long : length (map f kept) ≡ length lists = length-map kept f ∙ length-kept bits lists h in
      let same : length (map f lists) ≡ length lists = length-map lists f in
      ap (λ n. shown_rows (present_bits v n) (map f kept)) long
      ∙ shown-kept bits lists
      ∙ ap (λ n. shown_rows (present_bits v n) (map f lists)) (sym same)
