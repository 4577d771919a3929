-- Lists that are put one after another, and the offsets that cut them again.
use Rattle.std.proofs.Common.{◌≡◌, ℕ, ◌+◌, ◌-◌, ◌<◌, ◌≤◌, List, [], ◌∷◌, ◌++◌, length, get_or, map, take, drop, refl, sym, ap, ap₂, ◌∙◌, arith, append_assoc}
use Rattle.std.specs.List.{sum_by}
use Rattle.std.proofs.lemmas.List.{drop_at, take_at, length-append, length-drop, length-take-le}
use Rattle.std.proofs.lemmas.List.Sums.{sum_by-cons}
use Rattle.vx_offsets.specs.Offsets.{items_in, lists_at, spans}
use Rattle.vx_lists.specs.Lists.{AreOffsets, last_offset, row_count, span_at}
use Rattle.vx_lists.specs.Sums.{concat_lists, length_at, offsets_of, sums_from}
use Rattle.vx_lists.proofs.Spans.{offsets_ordered}

-- ---- lists that are joined and cut again

module _ {X : Type 0} where
  -- lists behind other items
  cut_behind : (front : List X) (lists : List (List X)) → map (items_in (front ++ concat_lists lists)) (spans (length front ∷ sums_from (length front) (map length lists))) ≡ lists
  cut_behind front [] = refl
  cut_behind front (l ∷ lists) =
      let low = length front in
      let high = low + length l in
      let items = front ++ (l ++ concat_lists lists) in
      let long : length (front ++ l) ≡ high = length-append front l in
      let size : high - low ≡ length l = omega arith in
      let here : items_in items (low, high) ≡ l = ap₂ take size (drop_at front (l ++ concat_lists lists) low refl) ∙ take_at l (concat_lists lists) (length l) refl in
      let rest : map (items_in items) (spans (high ∷ sums_from high (map length lists))) ≡ lists =
      ap₂ (λ xs n. map (items_in xs) (spans (n ∷ sums_from n (map length lists)))) (sym (append_assoc front l (concat_lists lists))) (sym long) ∙ cut_behind (front ++ l) lists in
      ap₂ ◌∷◌ here rest

  -- lists one after another, cut at their running sums, are the lists
  pub cut_again : (lists : List (List X)) → lists_at (offsets_of (map length lists)) (concat_lists lists) ≡ lists
  cut_again lists = cut_behind [] lists

-- ---- running sums, one more at a time

pub sums_more : {Y : Type 0} (f : Y → ℕ) (start : ℕ) (ys : List Y) (y : Y) → sums_from start (map f (ys ++ y ∷ [])) ≡ sums_from start (map f ys) ++ (start + sum_by f ys + f y) ∷ []
sums_more f start [] y = let none : start + f y ≡ start + 0 + f y = omega arith in ap (λ n. n ∷ []) none
sums_more f start (x ∷ ys) y =
    let same : start + f x + sum_by f ys + f y ≡ start + sum_by f (x ∷ ys) + f y = omega (arith, sum_by-cons f x ys) in
    ap (λ l. (start + f x) ∷ l) (sums_more f (start + f x) ys y ∙ ap (λ n. sums_from (start + f x) (map f ys) ++ n ∷ []) same)

-- ---- rows and their elements

-- what is known of a row
pub record IsRow (offsets : List ℕ) (i : ℕ) : Type 0 where
  pub ordered : get_or offsets i 0 ≤ get_or offsets (i + 1) 0
  pub within : get_or offsets (i + 1) 0 ≤ last_offset offsets

pub row_of : (offsets : List ℕ) (i : ℕ) → AreOffsets offsets → i < row_count offsets → IsRow offsets i
row_of offsets i are h = record {
  ordered = are.ascend i 0 (omega arith);
  within = offsets_ordered offsets (i + 1) (row_count offsets) are (omega arith) (omega (arith, are.some));
}

-- the list of a row has its length
pub length_row : {X : Type 0} (offsets : List ℕ) (items : List X) (i : ℕ) → IsRow offsets i → last_offset offsets ≤ length items → length (items_in items (span_at offsets i)) ≡ length_at offsets i
length_row offsets items i row h =
    let start = get_or offsets i 0 in
    let rest = length-drop start items in
    let a = row.ordered in
    let b = row.within in
    length-take-le (length_at offsets i) (drop start items) (omega (arith, rest))
