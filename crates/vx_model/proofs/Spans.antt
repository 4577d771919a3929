-- Spans of items: those between offsets, those of views, and those of one size.
use Rattle.std.proofs.Common.{◌≡◌, ℕ, zero, suc, ◌+◌, ◌-◌, ◌*◌, ◌<◌, ◌≤◌, true, List, [], ◌∷◌, length, get_or, take, drop, slice_range, refl, ap, ◌∙◌, arith}
use Rattle.std.specs.Prelude.{nat_le}
use Rattle.std.proofs.lemmas.Bool.Decides.{nat_tests}
use Rattle.vx_offsets.specs.Offsets.{are_views, spans}
use Rattle.vx_model.specs.FixedSizeList.{runs_from}
use Rattle.vx_model.specs.ListView.{view_spans}
use Rattle.std.specs.Cmp.{first_so, second_so}

-- ---- between offsets

pub length-spans : (offsets : List ℕ) → length (spans offsets) ≡ length offsets - 1
length-spans [] = refl
length-spans (a ∷ []) = refl
length-spans (a ∷ b ∷ offsets) = omega (arith, length-spans (b ∷ offsets))

pub get_or-spans : (offsets : List ℕ) (i : ℕ) → i + 1 < length offsets → get_or (spans offsets) i (0, 0) ≡ (get_or offsets i 0, get_or offsets (i + 1) 0)
get_or-spans [] i h = absurd (omega arith)
get_or-spans (a ∷ []) i h = absurd (omega arith)
get_or-spans (a ∷ b ∷ offsets) zero h = refl
get_or-spans (a ∷ b ∷ offsets) (suc i) h =
    get_or-spans (b ∷ offsets) i (omega (arith, h))
    ∙ ap (λ k. (get_or (b ∷ offsets) i 0, get_or (a ∷ b ∷ offsets) k 0)) (let e : suc (i + 1) ≡ suc i + 1 = omega arith in e)

drop-spans : (offsets : List ℕ) (s : ℕ) → spans (drop s offsets) ≡ drop s (spans offsets)
drop-spans offsets zero = refl
drop-spans [] (suc s) = refl
drop-spans (a ∷ []) (suc s) = none s
  where
    none : (s : ℕ) → spans (drop s []) ≡ []
    none zero = refl
    none (suc s) = refl
drop-spans (a ∷ b ∷ offsets) (suc s) = drop-spans (b ∷ offsets) s

take-spans : (offsets : List ℕ) (k : ℕ) → spans (take (suc k) offsets) ≡ take k (spans offsets)
take-spans [] zero = refl
take-spans [] (suc k) = refl
take-spans (a ∷ []) zero = refl
take-spans (a ∷ []) (suc k) = refl
take-spans (a ∷ b ∷ offsets) zero = refl
take-spans (a ∷ b ∷ offsets) (suc k) = ap (λ l. (a, b) ∷ l) (take-spans (b ∷ offsets) k)

-- offsets from one to another cut the spans between them
pub spans-slice : (offsets : List ℕ) (s e : ℕ) → s ≤ e → spans (slice_range offsets s (e + 1)) ≡ slice_range (spans offsets) s e
spans-slice offsets s e h =
    let many : e + 1 - s ≡ suc (e - s) = omega (arith, h) in
    ap (λ k. spans (take k (drop s offsets))) many
    ∙ take-spans (drop s offsets) (e - s)
    ∙ ap (take (e - s)) (drop-spans offsets s)

-- ---- of views

pub length-view_spans : (offsets sizes : List ℕ) → length offsets ≡ length sizes → length (view_spans offsets sizes) ≡ length offsets
length-view_spans [] sizes h = refl
length-view_spans (o ∷ offsets) [] h = absurd (omega arith)
length-view_spans (o ∷ offsets) (s ∷ sizes) h = omega (arith, length-view_spans offsets sizes (omega arith))

pub get_or-view_spans : (offsets sizes : List ℕ) (i : ℕ) → length offsets ≡ length sizes → i < length offsets → get_or (view_spans offsets sizes) i (0, 0) ≡ (get_or offsets i 0, get_or offsets i 0 + get_or sizes i 0)
get_or-view_spans [] sizes i h l = absurd (omega arith)
get_or-view_spans (o ∷ offsets) [] i h l = absurd (omega arith)
get_or-view_spans (o ∷ offsets) (s ∷ sizes) zero h l = refl
get_or-view_spans (o ∷ offsets) (s ∷ sizes) (suc i) h l = get_or-view_spans offsets sizes i (omega arith) (omega arith)

pub views_within : (offsets sizes : List ℕ) (n i : ℕ) → are_views offsets sizes n ≡ true → length offsets ≡ length sizes → i < length offsets → get_or offsets i 0 + get_or sizes i 0 ≤ n
views_within [] sizes n i k h l = absurd (omega arith)
views_within (o ∷ offsets) [] n i k h l = absurd (omega arith)
views_within (o ∷ offsets) (s ∷ sizes) n zero k h l =
    let first = first_so (nat_le (o + s) n) _ k in grind (arith, nat_tests)
views_within (o ∷ offsets) (s ∷ sizes) n (suc i) k h l = views_within offsets sizes n i (second_so (nat_le (o + s) n) _ k) (omega arith) (omega arith)

-- ---- of one size

pub length-runs_from : (start size len : ℕ) → length (runs_from start size len) ≡ len
length-runs_from start size zero = refl
length-runs_from start size (suc len) = ap suc (length-runs_from (start + size) size len)

pub get_or-runs_from : (start size len i : ℕ) → i < len → get_or (runs_from start size len) i (0, 0) ≡ (start + i * size, start + i * size + size)
get_or-runs_from start size zero i h = absurd (omega arith)
get_or-runs_from start size (suc len) zero h =
    ap (λ k. (k, k + size)) (let e : start ≡ start + 0 * size = grind arith in e)
get_or-runs_from start size (suc len) (suc i) h =
    get_or-runs_from (start + size) size len i (omega arith)
    ∙ ap (λ k. (k, k + size)) (let e : start + size + i * size ≡ start + suc i * size = grind arith in e)

-- the last one ends with the items
pub run_within : (size len i : ℕ) → i < len → i * size + size ≤ size * len
run_within size len i h = grind arith
