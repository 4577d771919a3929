-- Items at set positions, and at the ranks of set positions.
use Rattle.std.proofs.Common.{◌≡◌, ℕ, zero, suc, ◌+◌, ◌<◌, ◌≤◌, Bool, true, false, List, [], ◌∷◌, ◌++◌, length, get_or, map, replicate, None, Some, refl, sym, ap, ap₂, ◌∙◌, arith, append_assoc}
use Rattle.std.specs.List.{items_where_true, slice_get}
use Rattle.std.proofs.lemmas.List.{length_push, length-replicate, get_or_at, nil_from_length}
use Rattle.std.proofs.lemmas.List.FromFn.{length-range_with_len}
use Rattle.std.proofs.lemmas.List.Sums.{count_by-le-length}
use Rattle.vx_bits.specs.BitBuffer.{true_count_of}
use Rattle.vx_mask.specs.Positions.{FiltersJoin, positions, set_of, rank_of}
use Rattle.vx_mask.proofs.PositionLists.{length-positions, positions_true, positions_false, true_count_of-cons}

-- ---- items of any type

module _ {X : Type 0} where
  item_behind : (front : List X) (x : X) (xs : List X) (at : ℕ) → length front ≡ at → slice_get (front ++ x ∷ xs) at ≡ Some x
  item_behind [] x xs zero e = refl
  item_behind [] x xs (suc at) e = absurd (omega arith)
  item_behind (y ∷ front) x xs zero e = absurd (omega arith)
  item_behind (y ∷ front) x xs (suc at) e = item_behind front x xs at (omega arith)

  items_from : (at : ℕ) (front : List X) (bits : List Bool) (xs : List X) → length front ≡ at → length bits ≡ length xs → map Some (items_where_true bits xs) ≡ map (slice_get (front ++ xs)) (positions at bits)
  items_from at front [] [] e h = refl
  items_from at front [] (x ∷ xs) e h = absurd (omega arith)
  items_from at front (b ∷ bits) [] e h = absurd (omega arith)
  items_from at front (true ∷ bits) (x ∷ xs) e h =
      let rest = items_from (at + 1) (front ++ x ∷ []) bits xs (length_push front x ∙ ap (λ n. n + 1) e) (omega arith) in
      ap₂ ◌∷◌ (sym (item_behind front x xs at e)) (rest ∙ ap (λ l. map (slice_get l) (positions (at + 1) bits)) (append_assoc front (x ∷ []) xs))
  items_from at front (false ∷ bits) (x ∷ xs) e h =
      let rest = items_from (at + 1) (front ++ x ∷ []) bits xs (length_push front x ∙ ap (λ n. n + 1) e) (omega arith) in
      rest ∙ ap (λ l. map (slice_get l) (positions (at + 1) bits)) (append_assoc front (x ∷ []) xs)

  -- the items where the bits are set are those at the set positions
  pub items_at_the_set : (bits : List Bool) (xs : List X) → length bits ≡ length xs → map Some (items_where_true bits xs) ≡ map (slice_get xs) (set_of bits)
  items_at_the_set bits xs h = items_from 0 [] bits xs refl h

  pub slice_get-some : (xs : List X) (k : ℕ) → get_or (map Some xs) k None ≡ slice_get xs k
  slice_get-some [] k = refl
  slice_get-some (x ∷ xs) zero = refl
  slice_get-some (x ∷ xs) (suc k) = slice_get-some xs k

  pub get_or-map-get : (xs : List X) (ps : List ℕ) (k : ℕ) → k < length ps → get_or (map (slice_get xs) ps) k None ≡ slice_get xs (get_or ps k 0)
  get_or-map-get xs [] k h = absurd (omega arith)
  get_or-map-get xs (p ∷ ps) zero h = refl
  get_or-map-get xs (p ∷ ps) (suc k) h = get_or-map-get xs ps k (omega arith)

  -- as many items as set bits
  pub length-items_where_true : (bits : List Bool) (xs : List X) → length bits ≡ length xs → length (items_where_true bits xs) ≡ true_count_of bits
  length-items_where_true [] [] h = refl
  length-items_where_true [] (x ∷ xs) h = absurd (omega arith)
  length-items_where_true (b ∷ bits) [] h = absurd (omega arith)
  length-items_where_true (true ∷ bits) (x ∷ xs) h = omega (arith, length-items_where_true bits xs (omega arith), true_count_of-cons true bits)
  length-items_where_true (false ∷ bits) (x ∷ xs) h = omega (arith, length-items_where_true bits xs (omega arith), true_count_of-cons false bits)

-- two functions that agree on the places of bits agree on their set positions
map_positions : {Y : Type 0} (f g : ℕ → Y) (at : ℕ) (bits : List Bool) → ((k : ℕ) → at ≤ k → k < at + length bits → f k ≡ g k) → map f (positions at bits) ≡ map g (positions at bits)
map_positions f g at [] h = refl
map_positions f g at (true ∷ bits) h = ap₂ ◌∷◌ (h at (omega arith) (omega arith)) (map_positions f g (at + 1) bits (λ k p q. h k (omega arith) (omega arith)))
map_positions f g at (false ∷ bits) h = map_positions f g (at + 1) bits (λ k p q. h k (omega arith) (omega arith))

pub filters_join : {X : Type 0} (bits next : List Bool) (items : List X) → FiltersJoin bits next items
filters_join bits next items h e =
    let kept = items_where_true bits items in
    let long = length-items_where_true bits items h in
    let rank : (k : ℕ) → 0 ≤ k → k < 0 + length next → slice_get kept k ≡ slice_get items (rank_of bits k) = λ k p q.
    sym (slice_get-some kept k) ∙ ap (λ l. get_or l k None) (items_at_the_set bits items h) ∙ get_or-map-get items (set_of bits) k (omega (arith, length-positions 0 bits)) in
    items_at_the_set next kept (omega arith) ∙ map_positions (slice_get kept) (λ k. slice_get items (rank_of bits k)) 0 next rank

-- ---- set positions by rank

numbers_from : (at : ℕ) (front : List ℕ) (by : List Bool) (xs : List ℕ) → length front ≡ at → length by ≡ length xs → items_where_true by xs ≡ map (λ k. get_or (front ++ xs) k 0) (positions at by)
numbers_from at front [] [] e h = refl
numbers_from at front [] (x ∷ xs) e h = absurd (omega arith)
numbers_from at front (b ∷ by) [] e h = absurd (omega arith)
numbers_from at front (true ∷ by) (x ∷ xs) e h =
    let rest = numbers_from (at + 1) (front ++ x ∷ []) by xs (length_push front x ∙ ap (λ n. n + 1) e) (omega arith) in
    ap₂ ◌∷◌ (sym (get_or_at front x xs 0 at e)) (rest ∙ ap (λ l. map (λ k. get_or l k 0) (positions (at + 1) by)) (append_assoc front (x ∷ []) xs))
numbers_from at front (false ∷ by) (x ∷ xs) e h =
    let rest = numbers_from (at + 1) (front ++ x ∷ []) by xs (length_push front x ∙ ap (λ n. n + 1) e) (omega arith) in
    rest ∙ ap (λ l. map (λ k. get_or l k 0) (positions (at + 1) by)) (append_assoc front (x ∷ []) xs)

-- the set positions whose rank is set in `by` are those at the ranks that `by` sets
pub ranked : (bits by : List Bool) → length by ≡ true_count_of bits → items_where_true by (set_of bits) ≡ map (rank_of bits) (set_of by)
ranked bits by h = numbers_from 0 [] by (set_of bits) refl (h ∙ sym (length-positions 0 bits))

of_all : (at n : ℕ) (by : List Bool) → length by ≡ n → items_where_true by (positions at (replicate n true)) ≡ positions at by
of_all at zero [] h = refl
of_all at zero (b ∷ by) h = absurd (omega arith)
of_all at (suc n) [] h = absurd (omega arith)
of_all at (suc n) (true ∷ by) h = ap (λ l. at ∷ l) (of_all (at + 1) n by (omega arith))
of_all at (suc n) (false ∷ by) h = of_all (at + 1) n by (omega arith)

count_all_true : (n : ℕ) → true_count_of (replicate n true) ≡ n
count_all_true n = sym (length-positions 0 (replicate n true)) ∙ ap length (positions_true 0 n) ∙ length-range_with_len 0 n

count_all_false : (n : ℕ) → true_count_of (replicate n false) ≡ 0
count_all_false n = sym (length-positions 0 (replicate n false)) ∙ ap length (positions_false 0 n)

-- of rows that are all selected
pub ranked_in_all : (n : ℕ) (by : List Bool) → length by ≡ true_count_of (replicate n true) → (set_of by ≡ map (rank_of (replicate n true)) (set_of by)) × (length by ≡ length (replicate n true))
ranked_in_all n by h =
    let long = h ∙ count_all_true n in
    (sym (of_all 0 n by long) ∙ ranked (replicate n true) by h, long ∙ sym (length-replicate n true))

-- of no selected row
pub ranked_in_none : (n : ℕ) (by : List Bool) → length by ≡ true_count_of (replicate n false) → set_of (replicate n false) ≡ map (rank_of (replicate n false)) (set_of by)
ranked_in_none n by h = positions_false 0 n ∙ ap (map (rank_of (replicate n false))) (sym (nil_from_length (set_of by) (omega (arith, length-positions 0 by, count_by-le-length (λ b. b) by, h, count_all_false n))))

where_all : (n : ℕ) (xs : List ℕ) → length xs ≡ n → items_where_true (replicate n true) xs ≡ xs
where_all zero [] h = refl
where_all zero (x ∷ xs) h = absurd (omega arith)
where_all (suc n) [] h = absurd (omega arith)
where_all (suc n) (x ∷ xs) h = ap (λ l. x ∷ l) (where_all n xs (omega arith))

-- by all ranks, and by none
pub ranked_by_all : (bits : List Bool) (n : ℕ) → length (replicate n true) ≡ true_count_of bits → set_of bits ≡ map (rank_of bits) (set_of (replicate n true))
ranked_by_all bits n h =
    sym (where_all n (set_of bits) (length-positions 0 bits ∙ sym h ∙ length-replicate n true)) ∙ ranked bits (replicate n true) h

pub ranked_by_none : (bits : List Bool) (n len : ℕ) → set_of (replicate len false) ≡ map (rank_of bits) (set_of (replicate n false))
ranked_by_none bits n len = positions_false 0 len ∙ ap (map (rank_of bits)) (sym (positions_false 0 n))
