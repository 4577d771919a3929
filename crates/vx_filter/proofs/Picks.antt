-- The items of a list at places, one after another.
use Rattle.std.proofs.Common.{◌≡◌, ℕ, ◌+◌, ◌-◌, ◌<◌, ◌≤◌, Bool, true, List, [], ◌∷◌, ◌++◌, length, get_or, take, map, Some, Ok, Err, Result, IfOk, refl, sym, ap, ap₂, ◌∙◌, arith}
use Rattle.std.specs.List.{All, flat_map, items_where_true, range_with_len, slice_get, slice_range}
use Rattle.std.proofs.lemmas.List.{map-append, take_more}
use Rattle.std.proofs.lemmas.List.Elements.{All-cons, All-nil, All-tail}
use Rattle.std.proofs.lemmas.Option.{slice_get-get_or}
use Rattle.vx_mask.specs.Positions.{ascending, run_positions, set_of}
use Rattle.vx_mask.proofs.AscendingLists.{index_parts}
use Rattle.vx_mask.proofs.MarkedBits.{ascending-positions}
use Rattle.vx_mask.proofs.RankedItems.{items_at_the_set}
use Rattle.vx_lemmas.proofs.Picked.{cut_picked, same_items}

module _ {X : Type 0} where
  -- what was picked at the set positions is what the bits pick
  pub picked_at_the_set : (bits : List Bool) (src kept : List X) → length bits ≡ length src → map Some kept ≡ map (slice_get src) (set_of bits) → kept ≡ items_where_true bits src
  picked_at_the_set bits src kept h e = same_items kept (items_where_true bits src) (e ∙ sym (items_at_the_set bits src h))

  -- the item at one more place was put out
  pub pick_pushed : (src kept new : List X) (indices : List ℕ) (i : ℕ) (x : X) → i < length indices → get_or indices i 0 < length src → x ≡ get_or src (get_or indices i 0) x → new ≡ kept ++ x ∷ [] → map Some kept ≡ map (slice_get src) (take i indices) → map Some new ≡ map (slice_get src) (take (i + 1) indices)
  pick_pushed src kept new indices i x h within item e f =
      let p = get_or indices i 0 in
      let here : Some x ≡ slice_get src p = ap Some item ∙ sym (slice_get-get_or src p x within) in
      ap (map Some) e ∙ map-append Some kept (x ∷ []) ∙ ap₂ (λ l y. l ++ y ∷ []) f here
      ∙ sym (map-append (slice_get src) (take i indices) (p ∷ [])) ∙ ap (map (slice_get src)) (sym (take_more indices i 0 h))

  -- the items of runs are those at the places that the runs cover
  pub runs_picked : (src : List X) (runs : List (ℕ × ℕ)) → All (λ run. run.0 ≤ run.1) runs → All (λ run. run.1 ≤ length src) runs → map Some (flat_map (λ run. slice_range src run.0 run.1) runs) ≡ map (slice_get src) (run_positions runs)
  runs_picked src [] p q = refl
  runs_picked src (run ∷ runs) p q =
      let ordered : run.0 ≤ run.1 = p 0 (0, 0) (omega arith) in
      let within : run.1 ≤ length src = q 0 (0, 0) (omega arith) in
      let cut = slice_range src run.0 run.1 in
      let more = flat_map (λ (r : ℕ × ℕ). slice_range src r.0 r.1) runs in
      map-append Some cut more
      ∙ ap₂ ◌++◌ (cut_picked src run.0 (run.1 - run.0) (omega arith)) (runs_picked src runs (All-tail (λ (r : ℕ × ℕ). r.0 ≤ r.1) run runs p) (All-tail (λ (r : ℕ × ℕ). r.1 ≤ length src) run runs q))
      ∙ sym (map-append (slice_get src) (range_with_len run.0 (run.1 - run.0)) (run_positions runs))

  -- so items of runs that cover the set positions are what the bits pick
  pub runs_picked_set : (bits : List Bool) (src : List X) (runs : List (ℕ × ℕ)) → length bits ≡ length src → run_positions runs ≡ set_of bits → All (λ run. run.0 ≤ run.1) runs → All (λ run. run.1 ≤ length src) runs → flat_map (λ run. slice_range src run.0 run.1) runs ≡ items_where_true bits src
  runs_picked_set bits src runs h cover p q = picked_at_the_set bits src (flat_map (λ (run : ℕ × ℕ). slice_range src run.0 run.1) runs) h (runs_picked src runs p q ∙ ap (map (slice_get src)) cover)

  -- so the items that a result has at the set positions are what the bits pick
  pub ok_picked : {V E : Type 0} (r : Result V E) (items : V → List X) (bits : List Bool) (src : List X) (indices : List ℕ) → length bits ≡ length src → indices ≡ set_of bits → IfOk r (λ v. map Some (items v) ≡ map (slice_get src) indices) → IfOk r (λ v. items v ≡ items_where_true bits src)
  ok_picked (Ok v) items bits src indices h e f = picked_at_the_set bits src (items v) h (f ∙ ap (map (slice_get src)) e)
  ok_picked (Err e) items bits src indices h i f = f

-- ---- what a kernel asks of the places

pub set_ascends : (bits : List Bool) (n : ℕ) → length bits ≡ n → ascending 0 n (set_of bits) ≡ true
set_ascends bits n h = ascending-positions 0 n bits (omega arith)

pub ascending_below : (low n : ℕ) (ps : List ℕ) → ascending low n ps ≡ true → All (λ p. p < n) ps
ascending_below low n [] h = All-nil (λ p. p < n)
ascending_below low n (p ∷ ps) h =
    let parts = index_parts low n p ps h in
    All-cons (λ p. p < n) p ps parts.within (ascending_below (p + 1) n ps parts.then)

-- runs that are not empty start at or before their end
pub ordered_runs : (runs : List (ℕ × ℕ)) → All (λ run. run.0 < run.1) runs → All (λ run. run.0 ≤ run.1) runs
ordered_runs runs h k d p = omega (arith, h k d p)
