-- Rows that pass a test, counted one after another.
use Rattle.std.proofs.Common.{zero, suc, ◌≡◌, ℕ, ◌+◌, ◌-◌, ◌<◌, ◌≤◌, Bool, true, false, not, List, [], length, get_or, take, cond, ap, ap₂, sym, ◌∙◌, refl, arith}
use Rattle.std.specs.List.{count_by, list_all, range_with_len}
use Rattle.std.proofs.lemmas.Bool.{and_from}
use Rattle.std.proofs.lemmas.List.{take_all}
use Rattle.std.proofs.lemmas.List.FromFn.{get_or-range_with_len, length-range_with_len}
use Rattle.std.proofs.lemmas.List.Sums.{count_by_more_no, count_by_more_yes, sum_by-cons}
use Rattle.vx_arrow_image.specs.declared.format.Offsets.TheVariants.{Short}
use Rattle.vx_arrow_image.specs.Image.{Part, is_valid, offset_at}
use Rattle.vx_arrow_image.proofs.CutRows.{range_all}
use Rattle.vx_arrow_image.proofs.Stacks.{range_falls}
use Rattle.vx_arrow_strict.specs.Maps.{entry_count, first_entry, has_keys}
use Rattle.vx_arrow_strict.specs.Nulls.{has_no_nulls, is_nulls, is_present, null_count}

-- how many of the rows from a to before i pass
abbrev pub count_to : (ℕ → Bool) → ℕ → ℕ → ℕ → ℕ
count_to f a n i = count_by f (take (i - a) (range_with_len a n))

pub count_none : (f : ℕ → Bool) (a n i : ℕ) → i ≡ a → 0 ≡ count_to f a n i
count_none f a n i e = ap (λ (m : ℕ). count_by f (take m (range_with_len a n))) (let s : 0 ≡ i - a = omega arith in s)

at : (a n i : ℕ) → a ≤ i → i < a + n → get_or (range_with_len a n) (i - a) 0 ≡ i
at a n i low high = get_or-range_with_len a n (i - a) 0 (omega arith) ∙ (let s : a + (i - a) ≡ i = omega arith in s)

within : (a n i : ℕ) → a ≤ i → i < a + n → i - a < length (range_with_len a n)
within a n i low high = omega (arith, length-range_with_len a n)

pub count_yes : (f : ℕ → Bool) (a n i c : ℕ) → a ≤ i → i < a + n → c ≡ count_to f a n i → f i ≡ true → c + 1 ≡ count_to f a n (i + 1)
count_yes f a n i c low high e t =
    ap (λ (m : ℕ). m + 1) e
    ∙ sym (count_by_more_yes f (range_with_len a n) (i - a) 0 (within a n i low high) (ap f (at a n i low high) ∙ t))
    ∙ ap (λ (m : ℕ). count_by f (take m (range_with_len a n))) (let s : (i - a) + 1 ≡ (i + 1) - a = omega arith in s)

pub count_no : (f : ℕ → Bool) (a n i c : ℕ) → a ≤ i → i < a + n → c ≡ count_to f a n i → f i ≡ false → c ≡ count_to f a n (i + 1)
count_no f a n i c low high e t =
    e
    ∙ sym (count_by_more_no f (range_with_len a n) (i - a) 0 (within a n i low high) (ap f (at a n i low high) ∙ t))
    ∙ ap (λ (m : ℕ). count_by f (take m (range_with_len a n))) (let s : (i - a) + 1 ≡ (i + 1) - a = omega arith in s)

pub count_end : (f : ℕ → Bool) (a n i c : ℕ) → a + n ≤ i → c ≡ count_to f a n i → c ≡ count_by f (range_with_len a n)
count_end f a n i c high e = e ∙ ap (count_by f) (take_all (i - a) (range_with_len a n) (omega (arith, length-range_with_len a n)))

pub count_all : (f : ℕ → Bool) (a n : ℕ) → ((j : ℕ) → f j ≡ true) → n ≡ count_by f (range_with_len a n)
count_all f a zero h = refl
count_all f a (suc n) h =
    (let s : suc n ≡ 1 + n = omega arith in s)
    ∙ ap₂ (λ (x : ℕ) (y : ℕ). x + y) (sym (ap (λ (b : Bool). cond b 1 0) (h a))) (count_all f (a + 1) n h)
    ∙ sym (sum_by-cons (λ x. cond (f x) 1 0) a (range_with_len (a + 1) n))

pub count_zero : (f : ℕ → Bool) (a n : ℕ) → ((j : ℕ) → f j ≡ false) → 0 ≡ count_by f (range_with_len a n)
count_zero f a zero h = refl
count_zero f a (suc n) h =
    ap₂ (λ (x : ℕ) (y : ℕ). x + y) (sym (ap (λ (b : Bool). cond b 1 0) (h a))) (count_zero f (a + 1) n h)
    ∙ sym (sum_by-cons (λ x. cond (f x) 1 0) a (range_with_len (a + 1) n))

-- ---- the nulls of a node

pub nulls_all : (p : Part) → is_nulls p.format ≡ true → p.len ≡ null_count p
unfolding null_count
nulls_all p e = count_all (λ j. not (is_present p j)) p.offset p.len (λ j. ap (λ (b : Bool). not (cond b false (is_valid p.valid j))) e)

pub nulls_none : (p : Part) → is_nulls p.format ≡ false → p.valid ≡ [] → 0 ≡ null_count p
unfolding null_count
nulls_none p e f = count_zero (λ j. not (is_present p j)) p.offset p.len (λ j. ap₂ (λ (b : Bool) (v : List ℕ). not (cond b false (is_valid v j))) e f)

pub nulls_clear : (p : Part) (n : ℕ) → is_nulls p.format ≡ false → n ≡ count_by (λ j. not (is_valid p.valid j)) (range_with_len p.offset p.len) → n ≡ null_count p
unfolding null_count
nulls_clear p n e h = h ∙ sym (ap (λ (b : Bool). count_by (λ j. not (cond b false (is_valid p.valid j))) (range_with_len p.offset p.len)) e)

-- ---- rows of which none is null

pub no_rows : (p : Part) (a n : ℕ) → n ≡ 0 → true ≡ has_no_nulls p a n
unfolding has_no_nulls
no_rows p a n e = sym (ap (λ (m : ℕ). list_all (is_present p) (range_with_len a m)) e)

pub all_null : (p : Part) (a n : ℕ) → is_nulls p.format ≡ true → 0 < n → false ≡ has_no_nulls p a n
unfolding has_no_nulls
all_null p a n e some = range_falls (is_present p) a n a (omega arith) (omega arith) (ap (λ (b : Bool). cond b false (is_valid p.valid a)) e)

pub none_null : (p : Part) (a n : ℕ) → is_nulls p.format ≡ false → p.valid ≡ [] → true ≡ has_no_nulls p a n
unfolding has_no_nulls
none_null p a n e f = sym (range_all (is_present p) a n (λ j low high. ap₂ (λ (b : Bool) (v : List ℕ). cond b false (is_valid v j)) e f))

pub set_all : (p : Part) (a n : ℕ) (r : Bool) → is_nulls p.format ≡ false → r ≡ list_all (is_valid p.valid) (range_with_len a n) → r ≡ has_no_nulls p a n
unfolding has_no_nulls
set_all p a n r e h = h ∙ sym (ap (λ (b : Bool). list_all (λ j. cond b false (is_valid p.valid j)) (range_with_len a n)) e)

-- lists of no rows span no entry
pub no_keys : (p entries keys : Part) → p.len ≡ 0 → true ≡ has_keys p entries keys
unfolding has_keys
no_keys p entries keys e =
    let same : p.offset + p.len ≡ p.offset = omega arith in
    let none : entry_count p ≡ 0 = ap (λ (m : ℕ). offset_at Short p.offsets m - first_entry p) same ∙ (let s : first_entry p - first_entry p ≡ 0 = omega arith in s) in
    sym (and_from _ _ (sym (no_rows entries _ _ none)) (sym (no_rows keys _ _ none)))
