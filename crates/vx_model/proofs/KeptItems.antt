-- The items that a mask keeps: their slices, and what a mask of them keeps.
use Rattle.std.proofs.Common.{◌≡◌, ℕ, zero, suc, ◌-◌, ◌≤◌, Bool, true, false, List, [], ◌∷◌, map, length, take, drop, slice_range, refl, sym, ap, ap₂, ◌∙◌, arith}
use Rattle.std.specs.List.{items_where_true, slice_get}
use Rattle.std.proofs.Math.Seq.{take-nil, drop-nil}
use Rattle.std.proofs.lemmas.Simd.{map-map}
use Rattle.vx_bits.specs.BitBuffer.{true_count_of}
use Rattle.vx_mask.specs.Positions.{rank_of, set_of}
use Rattle.vx_mask.proofs.PositionLists.{true_count_between, true_count_of-cons, true_count_between, true_count_of-clear}
use Rattle.vx_mask.proofs.RankedItems.{filters_join, items_at_the_set}
use Rattle.vx_lemmas.proofs.Picked.{picked_nothing, same_items}

-- ---- slices

more_set : (bits : List Bool) → true_count_of (true ∷ bits) ≡ suc (true_count_of bits)
more_set bits = omega (arith, true_count_of-cons true bits)

module _ {X : Type 0} where
  -- the first items that are kept are those that the first bits keep
  take-items : (k : ℕ) (mask : List Bool) (items : List X) → take (true_count_of (take k mask)) (items_where_true mask items) ≡ items_where_true (take k mask) (take k items)
  take-items zero mask items = refl
  take-items (suc k) [] items = refl
  take-items (suc k) (b ∷ mask) [] = take-nil (true_count_of (b ∷ take k mask))
  take-items (suc k) (true ∷ mask) (x ∷ items) =
      ap (λ n. take n (x ∷ items_where_true mask items)) (more_set (take k mask)) ∙ ap (λ l. x ∷ l) (take-items k mask items)
  take-items (suc k) (false ∷ mask) (x ∷ items) =
      ap (λ n. take n (items_where_true mask items)) (true_count_of-clear (take k mask)) ∙ take-items k mask items

  -- and those behind them are those that the other bits keep
  drop-items : (k : ℕ) (mask : List Bool) (items : List X) → drop (true_count_of (take k mask)) (items_where_true mask items) ≡ items_where_true (drop k mask) (drop k items)
  drop-items zero mask items = refl
  drop-items (suc k) [] items = refl
  drop-items (suc k) (b ∷ mask) [] = drop-nil (true_count_of (b ∷ take k mask)) ∙ sym (picked_nothing (drop k mask))
  drop-items (suc k) (true ∷ mask) (x ∷ items) =
      ap (λ n. drop n (x ∷ items_where_true mask items)) (more_set (take k mask)) ∙ drop-items k mask items
  drop-items (suc k) (false ∷ mask) (x ∷ items) =
      ap (λ n. drop n (items_where_true mask items)) (true_count_of-clear (take k mask)) ∙ drop-items k mask items

  -- a slice of the items that are kept is what is kept of a slice, from a place with so many kept
  -- items before it up to such a place
  pub slice-items : (mask : List Bool) (items : List X) (s e lo hi : ℕ) → length mask ≡ length items → lo ≤ hi → hi ≤ length mask → true_count_of (take lo mask) ≡ s → true_count_of (take hi mask) ≡ e → slice_range (items_where_true mask items) s e ≡ items_where_true (slice_range mask lo hi) (slice_range items lo hi)
  slice-items mask items s e lo hi same h l at_lo at_hi =
      let between : e - s ≡ true_count_of (take (hi - lo) (drop lo mask)) = omega (arith, true_count_between mask lo hi h, at_lo, at_hi) in
      ap (λ n. take (e - s) (drop n (items_where_true mask items))) (sym at_lo)
      ∙ ap₂ take between (drop-items lo mask items)
      ∙ take-items (hi - lo) (drop lo mask) (drop lo items)

-- ---- masks of what is kept

-- what a second mask keeps of the items that are kept is what both keep: the set positions whose
-- ranks the second one selects
pub kept-by-both : {X : Type 0} (mask other both : List Bool) (items : List X) → length mask ≡ length items → length other ≡ true_count_of mask → set_of both ≡ map (rank_of mask) (set_of other) → length both ≡ length mask → items_where_true both items ≡ items_where_true other (items_where_true mask items)
kept-by-both mask other both items h few set long =
    same_items (items_where_true both items) (items_where_true other (items_where_true mask items))
    (items_at_the_set both items (long ∙ h)
    ∙ ap (map (slice_get items)) set
    ∙ map-map (slice_get items) (rank_of mask) (set_of other)
    ∙ sym (filters_join mask other items h few))
