-- Picks that ascend: those of a chunk follow one another.
use Rattle.std.proofs.Common.{◌≡◌, ◌≢◌, ℕ, zero, suc, ◌+◌, ◌-◌, ◌/◌, ◌<◌, ◌≤◌, ◌++◌, Bool, true, false, cond, eqb, List, [], ◌∷◌, length, get_or, None, refl, ap, ◌∙◌, inl, inr, arith}
use Rattle.std.specs.List.{filter, range_with_len}
use Rattle.std.proofs.Math.Nat.{div-lt_iff_lt-mul, div-mul-le_self}
use Rattle.std.proofs.lemmas.Bool.{cases_lt, eq-eqb, ne_eqb}
use Rattle.std.proofs.lemmas.List.{append-nil}
use Rattle.std.proofs.lemmas.List.Elements.{filter-append}
use Rattle.vx_lemmas.proofs.Lists.{range_split}
use Rattle.vx_chunk_plan.specs.Picks.{lies_in, picks_in, picks_of}
use Rattle.vx_chunk_plan.specs.Runs.{BeginsAt, DoAscend, IsRun}
use Rattle.vx_chunk_plan.proofs.KeyLists.{pick_is, picks_len}

div_ordered : (a b k : ℕ) → 0 < k → a ≤ b → a / k ≤ b / k
div_ordered a b k some h = elim (cases_lt (b / k) (a / k)) [
  | inl less ↦ absurd (let low = (div-lt_iff_lt-mul some).0 less in omega (arith, low, div-mul-le_self a k))
  | inr right ↦ right
]

filter_none : (p : ℕ → Bool) (a n : ℕ) → ((j : ℕ) → a ≤ j → j < a + n → p j ≡ false) → filter p (range_with_len a n) ≡ []
filter_none p a zero h = refl
filter_none p a (suc n) h =
    ap (λ (b : Bool). cond b (a ∷ filter p (range_with_len (a + 1) n)) (filter p (range_with_len (a + 1) n))) (h a (omega arith) (omega arith))
    ∙ filter_none p (a + 1) n (λ j low high. h j (omega arith) (omega arith))

filter_all : (p : ℕ → Bool) (a n : ℕ) → ((j : ℕ) → a ≤ j → j < a + n → p j ≡ true) → filter p (range_with_len a n) ≡ range_with_len a n
filter_all p a zero h = refl
filter_all p a (suc n) h =
    ap (λ (b : Bool). cond b (a ∷ filter p (range_with_len (a + 1) n)) (filter p (range_with_len (a + 1) n))) (h a (omega arith) (omega arith))
    ∙ ap (λ (l : List ℕ). a ∷ l) (filter_all p (a + 1) n (λ j low high. h j (omega arith) (omega arith)))

filter_between : (p : ℕ → Bool) (a m k : ℕ) → ((j : ℕ) → j < a → p j ≡ false) → ((j : ℕ) → a ≤ j → j < a + m → p j ≡ true) → ((j : ℕ) → a + m ≤ j → j < a + m + k → p j ≡ false)
    → filter p (range_with_len 0 (a + m + k)) ≡ range_with_len a m
filter_between p a m k before within behind =
    let at : 0 + (a + m) ≡ a + m = omega arith in
    let from : 0 + a ≡ a = omega arith in
    let first : filter p (range_with_len 0 a) ≡ [] = filter_none p 0 a (λ j low high. before j (omega arith)) in
    let middle : filter p (range_with_len a m) ≡ range_with_len a m = filter_all p a m within in
    let last : filter p (range_with_len (a + m) k) ≡ [] = filter_none p (a + m) k behind in
    let front : filter p (range_with_len 0 (a + m)) ≡ range_with_len a m =
    ap (filter p) (range_split 0 a m) ∙ filter-append p (range_with_len 0 a) (range_with_len (0 + a) m)
    ∙ ap (λ (l : List ℕ). l ++ filter p (range_with_len (0 + a) m)) first ∙ ap (λ (n : ℕ). filter p (range_with_len n m)) from ∙ middle in
    ap (filter p) (range_split 0 (a + m) k) ∙ filter-append p (range_with_len 0 (a + m)) (range_with_len (0 + (a + m)) k)
    ∙ ap (λ (l : List ℕ). l ++ filter p (range_with_len (0 + (a + m)) k)) front
    ∙ ap (λ (n : ℕ). range_with_len a m ++ filter p (range_with_len n k)) at ∙ ap (λ (l : List ℕ). range_with_len a m ++ l) last ∙ append-nil (range_with_len a m)

own_run : (chunk_len : ℕ) (places : List ℕ) (from chunk end : ℕ) → 0 < chunk_len → from < end → end ≤ length places → ((j : ℕ) → from ≤ j → j < end → get_or places j 0 / chunk_len ≡ chunk)
    → (end < length places → get_or places end 0 / chunk_len ≢ chunk) → DoAscend places → BeginsAt chunk_len places from chunk
    → picks_in chunk_len (picks_of places []) chunk ≡ range_with_len from (end - from)
unfolding picks_in
own_run chunk_len places from chunk end positive some within lie next up begins =
    let n = length places in
    let p : ℕ → Bool = λ j. lies_in chunk_len chunk (get_or (picks_of places []) j None) in
    let is : (j : ℕ) → j < n → p j ≡ eqb (get_or places j 0 / chunk_len) chunk = λ j h. ap (lies_in chunk_len chunk) (pick_is places [] j h) in
    let parts : n ≡ from + (end - from) + (n - end) = omega arith in
    let long : length (picks_of places []) ≡ from + (end - from) + (n - end) = picks_len places [] ∙ parts in
    let here : get_or places from 0 / chunk_len ≡ chunk = lie from (omega arith) some in
    let last : get_or places (end - 1) 0 / chunk_len ≡ chunk = lie (end - 1) (omega arith) (omega arith) in
    ap (λ (m : ℕ). filter p (range_with_len 0 m)) long ∙ filter_between p from (end - from) (n - end)
    (λ j h. is j (omega arith) ∙ ne_eqb (get_or places j 0 / chunk_len) chunk (λ (e : get_or places j 0 / chunk_len ≡ chunk).
    let low = div_ordered (get_or places j 0) (get_or places (from - 1) 0) chunk_len positive (up j (from - 1) (omega arith) (omega arith)) in
    let high = div_ordered (get_or places (from - 1) 0) (get_or places from 0) chunk_len positive (up (from - 1) from (omega arith) (omega arith)) in
    begins (omega arith) (omega (arith, low, high, here, e))))
    (λ j low high. is j (omega arith) ∙ eq-eqb (get_or places j 0 / chunk_len) chunk (lie j low (omega arith)))
    (λ j low high. is j (omega arith) ∙ ne_eqb (get_or places j 0 / chunk_len) chunk (λ (e : get_or places j 0 / chunk_len ≡ chunk).
    let first = div_ordered (get_or places (end - 1) 0) (get_or places end 0) chunk_len positive (up (end - 1) end (omega arith) (omega arith)) in
    let second = div_ordered (get_or places end 0) (get_or places j 0) chunk_len positive (up end j (omega arith) (omega arith)) in
    next (omega arith) (omega (arith, first, second, last, e))))

pub run_is : (chunk_len : ℕ) (places : List ℕ) (from chunk end : ℕ) → 0 < chunk_len → from < end → end ≤ length places → ((j : ℕ) → from ≤ j → j < end → get_or places j 0 / chunk_len ≡ chunk)
    → (end < length places → get_or places end 0 / chunk_len ≢ chunk) → IsRun chunk_len places from chunk end
run_is chunk_len places from chunk end positive some within lie next = record {
  some = some;
  within = within;
  lie = lie;
  next = next;
  own = own_run chunk_len places from chunk end positive some within lie next;
}
