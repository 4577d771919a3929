-- The calls that picks ask for are those of the set positions that are just the picks.
use Rattle.std.proofs.Common.{◌≡◌, ℕ, zero, suc, ◌+◌, ◌*◌, ◌<◌, Bool, true, false, cond, ◌||◌, eqb, List, [], ◌∷◌, length, get_or, map, Option, None, Some, refl, sym, ap, ap₂, ◌∙◌, arith, eq-eqb}
use Rattle.std.specs.Prelude.{Contains}
use Rattle.std.specs.List.{range_with_len, count_by, slice_get}
use Rattle.std.proofs.lemmas.Bool.{eqb-true, or_right}
use Rattle.std.proofs.lemmas.List.{get_or-map, length-map}
use Rattle.std.proofs.lemmas.List.Sums.{sum_by-cons}
use Rattle.vx_mask.specs.Positions.{rank_of, set_of}
use Rattle.vx_mask.proofs.PositionLists.{length-positions, ranks_are_the_set}
use Rattle.vx_take.specs.Ranks.{AreJustSet}
use Rattle.vx_mask.proofs.MarkedBits.{ascending-positions}
use Rattle.vx_chunked.specs.Asked.{asked, asked_by_picks, call_for, is_picked, picked_in}
use Rattle.vx_chunked.proofs.Counts.{flat_map_range}
use Rattle.vx_chunked.proofs.PickedOnce.{asked_is}
use Rattle.vx_lemmas.proofs.Options.{some_same}
use Rattle.std.specs.Cmp.{both_ways}

-- a value is picked where some pick is its position
record IsPickedBy (offset : ℕ) (picks : List (Option ℕ)) (n : ℕ) : Type 0 where
  pick : ℕ
  there : Contains picks (Some pick)
  position : offset + pick ≡ n

contains_later : (x : Option ℕ) (picks : List (Option ℕ)) (p : ℕ) → Contains picks (Some p) → Contains (x ∷ picks) (Some p)
contains_later x picks p has = (suc has.0, omega (arith, has.1), has.2)

later_pick : (offset : ℕ) (x : Option ℕ) (picks : List (Option ℕ)) (n : ℕ) → IsPickedBy offset picks n → IsPickedBy offset (x ∷ picks) n
later_pick offset x picks n by = record { pick = by.pick; there = contains_later x picks by.pick by.there; position = by.position }

picked_here : (offset p : ℕ) (picks : List (Option ℕ)) (n : ℕ) → (is_picked offset picks n ≡ true → IsPickedBy offset picks n) → (here : Bool) → eqb (offset + p) n ≡ here → (here || is_picked offset picks n) ≡ true → IsPickedBy offset (Some p ∷ picks) n
picked_here offset p picks n later true e h = record { pick = p; there = (zero, omega arith, refl); position = eqb-true (offset + p) n e }
picked_here offset p picks n later false e h = later_pick offset (Some p) picks n (later h)

picked_by : (offset : ℕ) (picks : List (Option ℕ)) (n : ℕ) → is_picked offset picks n ≡ true → IsPickedBy offset picks n
picked_by offset [] n h = let no : false ≡ true = h in cc
picked_by offset (None ∷ picks) n h = later_pick offset None picks n (picked_by offset picks n h)
picked_by offset (Some p ∷ picks) n h = picked_here offset p picks n (λ e. picked_by offset picks n e) (eqb (offset + p) n) refl h

is_picked_by : (offset : ℕ) (picks : List (Option ℕ)) (n p k : ℕ) → k < length picks → get_or picks k (Some p) ≡ Some p → offset + p ≡ n → is_picked offset picks n ≡ true
is_picked_by offset [] n p k h has e = absurd (omega arith)
is_picked_by offset (None ∷ picks) n p zero h has e = let no : None ≡ Some p = has in cc
is_picked_by offset (None ∷ picks) n p (suc k) h has e = is_picked_by offset picks n p k (omega arith) has e
is_picked_by offset (Some q ∷ picks) n p zero h has e =
    let same : offset + q ≡ n = omega (arith, e, some_same q p has) in
    ap (λ b. b || is_picked offset picks n) (eq-eqb (offset + q) n same)
is_picked_by offset (Some q ∷ picks) n p (suc k) h has e =
    or_right (eqb (offset + q) n) (is_picked offset picks n) (is_picked_by offset picks n p k (omega arith) has e)

-- set positions, as picks
set_of_contains : (bits : List Bool) (p : ℕ) → Contains (map Some (set_of bits)) (Some p) → slice_get bits p ≡ Some true
set_of_contains bits p has =
    let k = has.0 in
    let within : k < length (set_of bits) = omega (arith, has.1, length-map (set_of bits) Some) in
    let is : rank_of bits k ≡ p = some_same (rank_of bits k) p (sym (get_or-map Some (set_of bits) k 0 (Some p) within) ∙ has.2) in
    (ranks_are_the_set bits p).1 (k, omega (arith, within, length-positions 0 bits), is)

contains_set_of : (bits : List Bool) (p : ℕ) → slice_get bits p ≡ Some true → Contains (map Some (set_of bits)) (Some p)
contains_set_of bits p set =
    let rank = (ranks_are_the_set bits p).0 set in
    let within : rank.0 < length (set_of bits) = omega (arith, rank.1, length-positions 0 bits) in
    (rank.0, omega (arith, within, length-map (set_of bits) Some), get_or-map Some (set_of bits) rank.0 0 (Some p) within ∙ ap Some rank.2)

picked_same : (offset : ℕ) (bits : List Bool) (picks : List (Option ℕ)) → AreJustSet bits picks → (n : ℕ) → is_picked offset (map Some (set_of bits)) n ≡ is_picked offset picks n
picked_same offset bits picks just n =
    both_ways (is_picked offset (map Some (set_of bits)) n) (is_picked offset picks n)
    (λ h. let by = picked_by offset (map Some (set_of bits)) n h in
    let has = (just by.pick).0 (set_of_contains bits by.pick by.there) in
    is_picked_by offset picks n by.pick has.0 has.1 has.2 by.position)
    (λ h. let by = picked_by offset picks n h in
    let has = contains_set_of bits by.pick ((just by.pick).1 by.there) in
    is_picked_by offset (map Some (set_of bits)) n by.pick has.0 has.1 has.2 by.position)

count_alike : (f g : ℕ → Bool) (xs : List ℕ) → ((n : ℕ) → f n ≡ g n) → count_by f xs ≡ count_by g xs
count_alike f g [] same = refl
count_alike f g (x ∷ xs) same =
    sum_by-cons (λ n. cond (f n) 1 0) x xs
    ∙ ap₂ (λ b n. cond b 1 0 + n) (same x) (count_alike f g xs same)
    ∙ sym (sum_by-cons (λ n. cond (g n) 1 0) x xs)

-- where the set positions are just the picks, both ask for the same calls
pub asked_alike : (offset : ℕ) (bits : List Bool) (picks : List (Option ℕ)) (limit n : ℕ) → AreJustSet bits picks → asked offset (set_of bits) limit n ≡ asked_by_picks offset picks limit n
unfolding asked_by_picks
asked_alike offset bits picks limit n just =
    sym (asked_is offset (length bits) (set_of bits) limit n (ascending-positions 0 (length bits) bits (omega arith)))
    ∙ flat_map_range (λ c. call_for limit c (picked_in offset (map Some (set_of bits)) c)) (λ c. call_for limit c (picked_in offset picks c)) 0 n
    (λ c p. ap (call_for limit c) (count_alike (is_picked offset (map Some (set_of bits))) (is_picked offset picks) (range_with_len (1024 * c) 1024) (picked_same offset bits picks just)))
