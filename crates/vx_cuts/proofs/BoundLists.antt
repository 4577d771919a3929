-- The bounds of parts.
use Rattle.std.proofs.Common.{◌≡◌, ℕ, zero, suc, ◌+◌, ◌-◌, ◌<◌, ◌≤◌, List, [], ◌∷◌, length, map, take, refl, ap, ◌∙◌, arith}
use Rattle.std.specs.Prelude.{slice_index}
use Rattle.std.specs.List.{sum}
use Rattle.std.proofs.lemmas.List.{get_or-map}
use Rattle.std.proofs.lemmas.List.Sums.{sum_by-cons, sum_by-take-le, sum_by_more}
use Rattle.vx_cuts.specs.Bounds.{AreBounds, bounds_from, bounds_of, end_of}

pub length-bounds : (start : ℕ) (ns : List ℕ) → length (bounds_from start ns) ≡ length ns + 1
length-bounds start [] = refl
length-bounds start (n ∷ ns) = omega (arith, length-bounds (start + n) ns)

rising : (start : ℕ) (ns : List ℕ) (k : ℕ) → k + 1 < length (bounds_from start ns) → slice_index (bounds_from start ns) k ≤ slice_index (bounds_from start ns) (k + 1)
rising start [] k h = absurd (omega arith)
rising start (n ∷ []) zero h = omega arith
rising start (n ∷ m ∷ ns) zero h = omega arith
rising start (n ∷ ns) (suc k) h =
    let next : suc k + 1 ≡ suc (k + 1) = omega arith in
    let same = ap (λ (i : ℕ). slice_index (bounds_from start (n ∷ ns)) i) next in
    let rest = rising (start + n) ns k (omega arith) in
    omega (arith, same, rest)

first_bound : (start : ℕ) (ns : List ℕ) → slice_index (bounds_from start ns) 0 ≡ start
first_bound start [] = refl
first_bound start (n ∷ ns) = refl

pub bounds_are : (ns : List ℕ) → AreBounds (bounds_of ns)
bounds_are ns = record {
  some = omega (arith, length-bounds 0 ns);
  starts = first_bound 0 ns;
  ascending = rising 0 ns;
}

at_last : (start : ℕ) (ns : List ℕ) → slice_index (bounds_from start ns) (length ns) ≡ start + sum ns
at_last start [] = omega arith
at_last start (n ∷ ns) =
    let more : start + n + sum ns ≡ start + sum (n ∷ ns) = omega (arith, sum_by-cons (λ (x : ℕ). x) n ns) in
    at_last (start + n) ns ∙ more

last_place : (ns : List ℕ) → length (bounds_of ns) - 1 ≡ length ns
last_place ns = omega (arith, length-bounds 0 ns)

pub end_of_bounds : (ns : List ℕ) → end_of (bounds_of ns) ≡ sum ns
end_of_bounds ns = let so = at_last 0 ns in ap (slice_index (bounds_of ns)) (last_place ns) ∙ omega (arith, so)

pub bound_at : (f : ℕ → ℕ) (bounds : List ℕ) (k : ℕ) → k < length bounds → slice_index (map f bounds) k ≡ f (slice_index bounds k)
bound_at f bounds k h = get_or-map f bounds k 0 0 h

-- ---- bounds rise

rise : {bounds : List ℕ} → AreBounds bounds → (i n j : ℕ) → i + n ≡ j → j < length bounds → slice_index bounds i ≤ slice_index bounds j
rise {bounds} b i zero j e l =
    let is : i ≡ j = omega arith in let same : slice_index bounds i ≡ slice_index bounds j = ap (slice_index bounds) is in omega (arith, same)
rise {bounds} b i (suc n) j e l =
    let last : (i + n) + 1 ≡ j = omega arith in
    let below : i + n + 1 < length bounds = omega arith in
    let before : i + n < length bounds = omega arith in
    let step = b.ascending (i + n) below in
    let more = rise b i n (i + n) refl before in
    let same = ap (slice_index bounds) last in
    omega (arith, step, more, same)

pub rises : {bounds : List ℕ} → AreBounds bounds → (i j : ℕ) → i ≤ j → j < length bounds → slice_index bounds i ≤ slice_index bounds j
rises b i j h l = rise b i (j - i) j (omega arith) l

-- ---- bounds are sums

sum_from : (start : ℕ) (ns : List ℕ) (k : ℕ) → k ≤ length ns → slice_index (bounds_from start ns) k ≡ start + sum (take k ns)
sum_from start [] zero h = omega arith
sum_from start [] (suc k) h = absurd (omega arith)
sum_from start (n ∷ ns) zero h = omega arith
sum_from start (n ∷ ns) (suc k) h =
    let more = sum_by-cons (λ (x : ℕ). x) n (take k ns) in
    omega (arith, sum_from (start + n) ns k (omega arith), more)

pub bound_sum : (ns : List ℕ) (k : ℕ) → k ≤ length ns → slice_index (bounds_of ns) k ≡ sum (take k ns)
bound_sum ns k h = omega (arith, sum_from 0 ns k h)

pub bound_below : (ns : List ℕ) (k : ℕ) → k ≤ length ns → slice_index (bounds_of ns) k ≤ sum ns
bound_below ns k h = omega (arith, bound_sum ns k h, sum_by-take-le (λ (x : ℕ). x) ns k)

pub bound_next : (ns : List ℕ) (k : ℕ) → k < length ns → slice_index (bounds_of ns) (k + 1) ≡ slice_index (bounds_of ns) k + slice_index ns k
bound_next ns k h = omega (arith, bound_sum ns k (omega arith), bound_sum ns (k + 1) (omega arith), sum_by_more (λ (x : ℕ). x) ns k 0 h)
