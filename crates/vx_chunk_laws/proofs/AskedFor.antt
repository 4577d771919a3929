-- A chunk is told where it is asked for.
use Rattle.std.proofs.Common.{◌≡◌, ℕ, zero, suc, ◌+◌, ◌-◌, ◌*◌, ◌/◌, ◌<◌, ◌≤◌, ◌++◌, Bool, true, false, cond, List, [], ◌∷◌, length, get_or, map, eqb, leb, None, Some, Option, refl, sym, ap, ◌∙◌, inl, inr, arith}
use Rattle.std.specs.List.{count_by, filter, flat_map, list_any, range_with_len}
use Rattle.std.proofs.lemmas.Bool.{cases_Bool, eq-eqb, eqb-true, ne_eqb, or_cases, or_left, or_right}
use Rattle.std.proofs.lemmas.List.{map-append}
use Rattle.std.proofs.lemmas.List.FromFn.{get_or-range_with_len, length-range_with_len}
use Rattle.std.proofs.lemmas.List.Sums.{get_or-le-sum_by, sum_by-cons}
use Rattle.vx_decoder.specs.declared.call.Call.TheVariants.{Whole, Only}
use Rattle.vx_chunked.specs.Asked.{asked_by_picks, call_for, is_picked, picked_in}
use Rattle.vx_chunk_plan.specs.Picks.{is_told, lies_in}
use Rattle.vx_chunk_laws.specs.Told.{AreAsked, chunk_of}

abbrev as_one : Bool → ℕ
as_one b = cond b 1 0

-- ---- picks by chunk, and by value

pub record IsIn (k : ℕ) (picks : List (Option ℕ)) : Type 0 where
  pub value : ℕ
  pub lies : value / 1024 ≡ k
  pub picked : is_picked 0 picks value ≡ true

told_value : (k : ℕ) (picks : List (Option ℕ)) → list_any (lies_in 1024 k) picks ≡ true → IsIn k picks
told_value k [] h = absurd (let e : false ≡ true = h in cc)
told_value k (None ∷ picks) h =
    let rest = told_value k picks h in
    record { value = rest.value; lies = rest.lies; picked = rest.picked }
told_value k (Some p ∷ picks) h = elim (or_cases (eqb (p / 1024) k) (list_any (lies_in 1024 k) picks) h) [
  | inl here ↦ record {
    value = p;
    lies = eqb-true (p / 1024) k here;
    picked = or_left (eqb (0 + p) p) (is_picked 0 picks p) (eq-eqb (0 + p) p (omega arith));
  }
  | inr later ↦
      let rest = told_value k picks later in
      record {
        value = rest.value;
        lies = rest.lies;
        picked = or_right (eqb (0 + p) rest.value) (is_picked 0 picks rest.value) rest.picked;
      }
]

value_told : (picks : List (Option ℕ)) (n k : ℕ) → n / 1024 ≡ k → is_picked 0 picks n ≡ true → list_any (lies_in 1024 k) picks ≡ true
value_told [] n k e h = absurd (let f : false ≡ true = h in cc)
value_told (None ∷ picks) n k e h = value_told picks n k e h
value_told (Some p ∷ picks) n k e h = elim (or_cases (eqb (0 + p) n) (is_picked 0 picks n) h) [
  | inl here ↦
      let same : p ≡ n = (let f = eqb-true (0 + p) n here in omega arith) in
      or_left (eqb (p / 1024) k) (list_any (lies_in 1024 k) picks) (eq-eqb (p / 1024) k (ap (λ (m : ℕ). m / 1024) same ∙ e))
  | inr later ↦ or_right (eqb (p / 1024) k) (list_any (lies_in 1024 k) picks) (value_told picks n k e later)
]

-- ---- how many values of a chunk are picked

count_some : (p : ℕ → Bool) (xs : List ℕ) (i : ℕ) → i < length xs → p (get_or xs i 0) ≡ true → 0 < count_by p xs
count_some p xs i h is =
    let least = get_or-le-sum_by (λ (x : ℕ). cond (p x) 1 0) xs i 0 h in
    omega (arith, least, ap as_one is)

count_none : (p : ℕ → Bool) (a n : ℕ) → ((x : ℕ) → a ≤ x → x < a + n → p x ≡ false) → count_by p (range_with_len a n) ≡ 0
count_none p a zero h = refl
count_none p a (suc n) h = omega (arith, sum_by-cons (λ (x : ℕ). cond (p x) 1 0) a (range_with_len (a + 1) n), ap as_one (h a (omega arith) (omega arith)), count_none p (a + 1) n (λ x low high. h x (omega arith) (omega arith)))

told_counts : (picks : List (Option ℕ)) (k : ℕ) → is_told 1024 picks k ≡ true → 0 < picked_in 0 picks k
told_counts picks k h =
    let is = told_value k picks h in
    let at : is.value - 1024 * k < 1024 = (let e = is.lies in omega arith) in
    let there : get_or (range_with_len (1024 * k) 1024) (is.value - 1024 * k) 0 ≡ is.value = get_or-range_with_len (1024 * k) 1024 (is.value - 1024 * k) 0 at ∙ (let e = is.lies in omega arith) in
    count_some (is_picked 0 picks) (range_with_len (1024 * k) 1024) (is.value - 1024 * k) (omega (arith, at, length-range_with_len (1024 * k) 1024)) (ap (is_picked 0 picks) there ∙ is.picked)

untold_counts : (picks : List (Option ℕ)) (k : ℕ) → is_told 1024 picks k ≡ false → picked_in 0 picks k ≡ 0
untold_counts picks k h = count_none (is_picked 0 picks) (1024 * k) 1024 (λ x low high. elim (cases_Bool (is_picked 0 picks x)) [
  | inl is ↦ absurd (let f : false ≡ true = sym h ∙ value_told picks x k (omega (arith, low, high)) is in cc)
  | inr not_is ↦ not_is
])

-- ---- the calls

call_some : (limit k count : ℕ) → 0 < count → map chunk_of (call_for limit k count) ≡ k ∷ []
call_some limit k count h =
    let ne : eqb count 0 ≡ false = ne_eqb count 0 (λ (e : count ≡ 0). omega arith) in
    ap (λ (b : Bool). map chunk_of (cond b [] (cond (leb count limit) (Only k count ∷ []) (Whole k ∷ [])))) ne
    ∙ elim (leb count limit) as (λ b. map chunk_of (cond b (Only k count ∷ []) (Whole k ∷ [])) ≡ k ∷ []) [ true ↦ refl | false ↦ refl ]

call_none : (limit k count : ℕ) → count ≡ 0 → map chunk_of (call_for limit k count) ≡ []
call_none limit k count h = ap (λ (b : Bool). map chunk_of (cond b [] (cond (leb count limit) (Only k count ∷ []) (Whole k ∷ [])))) (eq-eqb count 0 h)

asked_all : (picks : List (Option ℕ)) (limit : ℕ) (ks : List ℕ) → map chunk_of (flat_map (λ (k : ℕ). call_for limit k (picked_in 0 picks k)) ks) ≡ filter (is_told 1024 picks) ks
asked_all picks limit [] = refl
asked_all picks limit (k ∷ ks) =
    let call = call_for limit k (picked_in 0 picks k) in
    let rest = flat_map (λ (j : ℕ). call_for limit j (picked_in 0 picks j)) ks in
    map-append chunk_of call rest ∙ ap (λ (l : List ℕ). map chunk_of call ++ l) (asked_all picks limit ks)
    ∙ elim (cases_Bool (is_told 1024 picks k)) [
      | inl is ↦ ap (λ (l : List ℕ). l ++ filter (is_told 1024 picks) ks) (call_some limit k (picked_in 0 picks k) (told_counts picks k is))
          ∙ sym (ap (λ (b : Bool). cond b (k ∷ filter (is_told 1024 picks) ks) (filter (is_told 1024 picks) ks)) is)
      | inr not_is ↦ ap (λ (l : List ℕ). l ++ filter (is_told 1024 picks) ks) (call_none limit k (picked_in 0 picks k) (untold_counts picks k not_is))
          ∙ sym (ap (λ (b : Bool). cond b (k ∷ filter (is_told 1024 picks) ks) (filter (is_told 1024 picks) ks)) not_is)
    ]

pub are_asked : (picks : List (Option ℕ)) → AreAsked picks
unfolding asked_by_picks
are_asked picks limit n = asked_all picks limit (range_with_len 0 n)
