-- Positions that ascend, as picks: each is picked once.
use Rattle.std.proofs.Common.{◌≡◌, refl, ℕ, zero, suc, ◌+◌, ◌*◌, ◌/◌, ◌<◌, ◌≤◌, Bool, true, false, cond, ◌||◌, eqb, List, [], ◌∷◌, map, Some, sym, ap, ap₂, ◌∙◌, arith, inl, inr, eq-eqb, ne_eqb}
use Rattle.std.specs.List.{range_with_len, count_by}
use Rattle.std.proofs.lemmas.List.Sums.{sum_by-cons}
use Rattle.std.proofs.lemmas.Bool.{cases_lt, eqb-true}
use Rattle.vx_mask.specs.Positions.{ascending}
use Rattle.vx_chunked.specs.Asked.{asked, asked_by_picks, call_for, calls_from, count_in, is_picked, picked_in}
use Rattle.vx_chunked.specs.Positions.{AscendFrom}
use Rattle.vx_chunked.proofs.Ascends.{ascend_of}
use Rattle.vx_chunked.proofs.Counts.{flat_map_range}

count_false : (xs : List ℕ) → count_by (λ n. false) xs ≡ 0
count_false [] = refl
count_false (x ∷ xs) = sum_by-cons (λ n. 0) x xs ∙ ap (λ n. 0 + n) (count_false xs)

one_or : (a b : Bool) → (a ≡ true → b ≡ false) → ◌≡◌ {A = ℕ} (cond (a || b) 1 0) (cond a 1 0 + cond b 1 0)
one_or true b h = ap (λ v. 1 + cond v 1 0) (sym (h refl))
one_or false true h = refl
one_or false false h = refl

count_or : (f g : ℕ → Bool) (xs : List ℕ) → ((n : ℕ) → f n ≡ true → g n ≡ false) → count_by (λ n. f n || g n) xs ≡ count_by f xs + count_by g xs
count_or f g [] apart = refl
count_or f g (x ∷ xs) apart =
    let rest = count_or f g xs apart in
    let both = sum_by-cons (λ n. cond (f n || g n) 1 0) x xs in
    let left = sum_by-cons (λ n. cond (f n) 1 0) x xs in
    let right = sum_by-cons (λ n. cond (g n) 1 0) x xs in
    let here = one_or (f x) (g x) (apart x) in
    omega (arith, rest, both, left, right, here)

none_before : (x a m : ℕ) → x < a → count_by (eqb x) (range_with_len a m) ≡ 0
none_before x a zero h = refl
none_before x a (suc m) h = sum_by-cons (λ n. cond (eqb x n) 1 0) a (range_with_len (a + 1) m) ∙ ap₂ (λ b n. cond b 1 0 + n) (ne_eqb x a (λ e. omega arith)) (none_before x (a + 1) m (omega arith))

none_after : (x a m : ℕ) → a + m ≤ x → count_by (eqb x) (range_with_len a m) ≡ 0
none_after x a zero h = refl
none_after x a (suc m) h = sum_by-cons (λ n. cond (eqb x n) 1 0) a (range_with_len (a + 1) m) ∙ ap₂ (λ b n. cond b 1 0 + n) (ne_eqb x a (λ e. omega arith)) (none_after x (a + 1) m (omega arith))

one_within : (x a m : ℕ) → a ≤ x → x < a + m → count_by (eqb x) (range_with_len a m) ≡ 1
one_within x a zero p q = absurd (omega arith)
one_within x a (suc m) p q =
    let split = sum_by-cons (λ n. cond (eqb x n) 1 0) a (range_with_len (a + 1) m) in
    elim (cases_lt a x) [
      | inl later ↦ split ∙ ap₂ (λ b n. cond b 1 0 + n) (ne_eqb x a (λ e. omega arith)) (one_within x (a + 1) m (omega arith) (omega arith))
      | inr here ↦ split ∙ ap₂ (λ b n. cond b 1 0 + n) (eq-eqb x a (omega arith)) (none_before x (a + 1) m (omega arith))
    ]

in_chunk : (x chunk : ℕ) → count_by (eqb x) (range_with_len (1024 * chunk) 1024) ≡ cond (eqb (x / 1024) chunk) 1 0
in_chunk x chunk = elim (cases_lt x (1024 * chunk)) [
  | inl before ↦ none_before x (1024 * chunk) 1024 before ∙ ap (λ b. cond b 1 0) (sym (ne_eqb (x / 1024) chunk (λ e. omega arith)))
  | inr from ↦ elim (cases_lt x (1024 * chunk + 1024)) [
    | inl here ↦ one_within x (1024 * chunk) 1024 from here ∙ ap (λ b. cond b 1 0) (sym (eq-eqb (x / 1024) chunk (omega arith)))
    | inr after ↦ none_after x (1024 * chunk) 1024 after ∙ ap (λ b. cond b 1 0) (sym (ne_eqb (x / 1024) chunk (λ e. omega arith)))
  ]
]

-- what lies before all of them is not picked
not_picked : (offset low high : ℕ) (ps : List ℕ) (n : ℕ) → AscendFrom low high ps → n < offset + low → is_picked offset (map Some ps) n ≡ false
not_picked offset low high [] n h p = refl
not_picked offset low high (x ∷ ps) n h p =
    ap (λ b. b || is_picked offset (map Some ps) n) (ne_eqb (offset + x) n (λ e. omega (arith, h.0))) ∙ not_picked offset (x + 1) high ps n h.2 (omega (arith, h.0))

pub picked_once : (offset low high : ℕ) (ps : List ℕ) (chunk : ℕ) → AscendFrom low high ps → picked_in offset (map Some ps) chunk ≡ count_in (map (λ i. offset + i) ps) chunk
picked_once offset low high [] chunk h = count_false (range_with_len (1024 * chunk) 1024)
picked_once offset low high (x ∷ ps) chunk h =
    let range = range_with_len (1024 * chunk) 1024 in
    let apart : (n : ℕ) → eqb (offset + x) n ≡ true → is_picked offset (map Some ps) n ≡ false = λ n e. not_picked offset (x + 1) high ps n h.2 (omega (arith, eqb-true (offset + x) n e)) in
    count_or (eqb (offset + x)) (is_picked offset (map Some ps)) range apart
    ∙ ap₂ ◌+◌ (in_chunk (offset + x) chunk) (picked_once offset (x + 1) high ps chunk h.2)
    ∙ sym (sum_by-cons (λ p. cond (eqb (p / 1024) chunk) 1 0) (offset + x) (map (λ i. offset + i) ps))

-- the calls for picks that are positions which ascend are those for the positions
pub asked_is : (offset high : ℕ) (set : List ℕ) (limit n : ℕ) → ascending 0 high set ≡ true → asked_by_picks offset (map Some set) limit n ≡ asked offset set limit n
unfolding asked_by_picks calls_from
asked_is offset high set limit n h =
    flat_map_range (λ c. call_for limit c (picked_in offset (map Some set) c)) (λ c. call_for limit c (count_in (map (λ i. offset + i) set) c)) 0 n
    (λ c p. ap (call_for limit c) (picked_once offset 0 high set c (ascend_of 0 high set h)))
