-- Parts are slices of the whole, and slices at bounds are the whole.
use Rattle.std.proofs.Common.{◌≡◌, ℕ, zero, suc, ◌+◌, ◌-◌, ◌<◌, ◌≤◌, List, [], ◌∷◌, ◌++◌, length, map, take, drop, slice_range, sym, refl, ap, ap₂, ◌∙◌, arith, slice_index}
use Rattle.std.specs.List.{sum}
use Rattle.std.proofs.lemmas.List.{append-nil, length-append, length-map, take_all, take_more}
use Rattle.std.proofs.lemmas.List.Concat.{flat_map-append}
use Rattle.std.proofs.lemmas.List.Sums.{sum_by-cons}
use Rattle.std.proofs.Math.Seq.{drop-append-add, take-add, take-append_seam}
use Rattle.vx_interleave.specs.Places.{joined, list_of}
use Rattle.vx_parts.specs.Bounds.{AreBounds, bounds_from, bounds_of, end_of}
use Rattle.vx_parts.proofs.BoundLists.{rises}

first_bound : (start : ℕ) (ns : List ℕ) → slice_index (bounds_from start ns) 0 ≡ start
first_bound start [] = refl
first_bound start (n ∷ ns) = refl

at_least : (start : ℕ) (ns : List ℕ) (k : ℕ) → k < length ns + 1 → start ≤ slice_index (bounds_from start ns) k
at_least start [] zero h = omega arith
at_least start [] (suc k) h = absurd (omega arith)
at_least start (n ∷ ns) zero h = omega arith
at_least start (n ∷ ns) (suc k) h = let rest = at_least (start + n) ns k (omega arith) in omega (arith, rest)

-- behind the first items
slice_behind : {X : Type 0} (xs ys : List X) (a b : ℕ) → length xs ≤ a → slice_range (xs ++ ys) a b ≡ slice_range ys (a - length xs) (b - length xs)
slice_behind xs ys a b h =
    let at : a ≡ length xs + (a - length xs) = omega arith in
    let many : b - a ≡ (b - length xs) - (a - length xs) = omega arith in
    ap₂ (λ n s. take n (drop s (xs ++ ys))) many at ∙ ap (take ((b - length xs) - (a - length xs))) (drop-append-add xs ys (a - length xs))

part_from : {X : Type 0} (parts : List (List X)) (start k : ℕ) → k < length parts
    → slice_range (joined parts) (slice_index (bounds_from start (map length parts)) k - start) (slice_index (bounds_from start (map length parts)) (k + 1) - start) ≡ list_of parts k
part_from [] start k h = absurd (omega arith)
part_from {X} (part ∷ parts) start zero h =
    let first : start - start ≡ 0 = omega arith in
    let last : slice_index (bounds_from (start + length part) (map length parts)) 0 - start ≡ length part = omega (arith, first_bound (start + length part) (map length parts)) in
    let all : length part - 0 ≡ length part = omega arith in
    ap₂ (λ a b. slice_range (part ++ joined parts) a b) first last ∙ ap (λ (n : ℕ). take n (part ++ joined parts)) all ∙ take-append_seam part (joined parts)
part_from {X} (part ∷ parts) start (suc k) h =
    let ns = map (length {A = X}) parts in
    let many = length-map parts (length {A = X}) in
    let low = slice_index (bounds_from (start + length part) ns) k in
    let high = slice_index (bounds_from (start + length part) ns) (k + 1) in
    let above = at_least (start + length part) ns k (omega (arith, many)) in
    let next : suc k + 1 ≡ suc (k + 1) = omega arith in
    let end : slice_index (bounds_from start (map length (part ∷ parts))) (suc k + 1) ≡ slice_index (bounds_from (start + length part) (map length parts)) (k + 1) =
    ap (λ (n : ℕ). slice_index (bounds_from start (map length (part ∷ parts))) n) next in
    let a : low - start - length part ≡ low - (start + length part) = omega arith in
    let b : high - start - length part ≡ high - (start + length part) = omega arith in
    ap (λ (n : ℕ). slice_range (part ++ joined parts) (low - start) (n - start)) end
    ∙ slice_behind part (joined parts) (low - start) (high - start) (omega (arith, above))
    ∙ ap₂ (λ x y. slice_range (joined parts) x y) a b
    ∙ part_from parts (start + length part) k (omega arith)

pub part_slice : {X : Type 0} (parts : List (List X)) (k : ℕ) → k < length parts
    → slice_range (joined parts) (slice_index (bounds_of (map length parts)) k) (slice_index (bounds_of (map length parts)) (k + 1)) ≡ list_of parts k
part_slice parts k h =
    let low : slice_index (bounds_of (map length parts)) k ≡ slice_index (bounds_of (map length parts)) k - 0 = omega arith in
    let high : slice_index (bounds_of (map length parts)) (k + 1) ≡ slice_index (bounds_of (map length parts)) (k + 1) - 0 = omega arith in
    ap₂ (λ a b. slice_range (joined parts) a b) low high ∙ part_from parts 0 k h

pub sum_lengths : {X : Type 0} (parts : List (List X)) → sum (map length parts) ≡ length (joined parts)
sum_lengths [] = refl
sum_lengths {X} (part ∷ parts) =
    let rest = sum_lengths parts in
    omega (arith, rest, length-append part (joined parts), sum_by-cons (λ (n : ℕ). n) (length part) (map (length {A = X}) parts))

-- ---- slices at bounds, one behind another

module _ {X : Type 0} (items : List X) (bounds : List ℕ) (b : AreBounds bounds) (end : end_of bounds ≡ length items) where
  pub bound_within : (k : ℕ) → k < length bounds → slice_index bounds k ≤ length items
  bound_within k h = let r = rises b k (length bounds - 1) (omega arith) (omega (arith, b.some)) in omega (arith, r, end)

  tiled : (lists : List (List X)) → length lists + 1 ≡ length bounds → ((k : ℕ) → k < length lists → list_of lists k ≡ slice_range items (slice_index bounds k) (slice_index bounds (k + 1)))
      → (n : ℕ) → n ≤ length lists → joined (take n lists) ≡ take (slice_index bounds n) items
  tiled lists many each zero h = ap (λ n. take n items) (sym b.starts)
  tiled lists many each (suc n) h =
      let one : suc n ≡ n + 1 = omega arith in
      let low = slice_index bounds n in let high = slice_index bounds (n + 1) in
      let grows = b.ascending n (omega (arith, many)) in
      let sum_is : low + (high - low) ≡ high = omega (arith, grows) in
      ap (λ (m : ℕ). joined (take m lists)) one
      ∙ ap joined (take_more lists n [] (omega arith))
      ∙ flat_map-append (λ (l : List X). l) (take n lists) (list_of lists n ∷ [])
      ∙ ap₂ (λ x y. x ++ y) (tiled lists many each n (omega arith)) (append-nil (list_of lists n) ∙ each n (omega arith))
      ∙ sym (take-add low (high - low) items)
      ∙ ap (λ m. take m items) sum_is
      ∙ ap (λ (m : ℕ). take (slice_index bounds m) items) (sym one)

  pub tiles : (lists : List (List X)) → length lists + 1 ≡ length bounds → ((k : ℕ) → k < length lists → list_of lists k ≡ slice_range items (slice_index bounds k) (slice_index bounds (k + 1))) → joined lists ≡ items
  tiles lists many each =
      let last : slice_index bounds (length lists) ≡ length items = let place : length lists ≡ length bounds - 1 = omega (arith, many) in ap (slice_index bounds) place ∙ end in
      sym (ap joined (take_all (length lists) lists (omega arith))) ∙ tiled lists many each (length lists) (omega arith)
      ∙ ap (λ m. take m items) last ∙ take_all (length items) items (omega arith)
