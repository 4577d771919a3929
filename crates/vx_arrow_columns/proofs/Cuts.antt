-- Lists cut by the lengths of what they are joined from.
use Rattle.std.proofs.Common.{zero, suc, ◌≡◌, ℕ, ◌+◌, ◌-◌, ◌*◌, ◌<◌, ◌≤◌, true, List, [], ◌∷◌, ◌++◌, length, get_or, take, drop, map, Option, Some, None, ap, ap₂, sym, ◌∙◌, refl, subst, arith, length-append}
use Rattle.std.specs.Prelude.{slice_range}
use Rattle.std.specs.List.{range_with_len, flat_map, sum_by}
use Rattle.std.proofs.lemmas.Bool.{or_right, le-leb}
use Rattle.std.proofs.lemmas.List.{drop-take, take-take, length-take-le, length-drop, take_at, take_all, ext_get_or, get_or-take, get_or-drop, get_or-map, length-map, take-map, drop-map}
use Rattle.std.proofs.lemmas.List.FromFn.{get_or-range_with_len, length-range_with_len, length-map-range_with_len, get_or-map-range_with_len}
use Rattle.std.proofs.lemmas.List.Sums.{sum_by_more, sum_by-cons, sum_by_more_le}
use Rattle.vx_arrow_image.specs.declared.format.Offsets.{Offsets}
use Rattle.vx_arrow_image.specs.Rows.{RowValue, null, picked}
use Rattle.vx_arrow_image.specs.Image.{Part, holds_offsets, is_cut, are_cut, limit_of, offset_at, size_of}
use Rattle.vx_arrow_image.proofs.CutRows.{are_cut_from, cut_end, cut_from, cut_up}
use Rattle.vx_arrow_columns.specs.Picks.{items_len, items_of, place_of, row_items, row_len}
use Rattle.vx_arrow_columns.specs.Taken.{AreCutAt, AreOffsets, AreOrdered, AreWithin, row_text, texts_of}

-- ---- a piece of joined pieces

pub piece : {X A : Type 0} (g : X → List A) (q : List X) (k : ℕ) (d : X) → k < length q → take (length (g (get_or q k d))) (drop (length (flat_map g (take k q))) (flat_map g q)) ≡ g (get_or q k d)
piece g [] k d h = absurd (omega arith)
piece g (x ∷ q) zero d h = take_at (g x) (flat_map g q) (length (g x)) refl
piece g (x ∷ q) (suc k) d h =
    let front = g x in
    ap (take (length (g (get_or q k d)))) (drop_far front (flat_map g q) _ (length (flat_map g (take k q))) (length-append front (flat_map g (take k q))))
    ∙ piece g q k d (omega arith)
  where
    drop_far : {A : Type 0} (xs ys : List A) (n m : ℕ) → n ≡ length xs + m → drop n (xs ++ ys) ≡ drop m ys
    drop_far [] ys n m e = ap (λ i. drop i ys) (omega arith)
    drop_far (y ∷ xs) ys n m e = ap (λ i. drop i (y ∷ (xs ++ ys))) (let f : n ≡ suc (length xs + m) = omega arith in f) ∙ drop_far xs ys (length xs + m) m refl

pub joined_len : {X A : Type 0} (g : X → List A) (f : X → ℕ) (q : List X) (d : X) → ((k : ℕ) → k < length q → length (g (get_or q k d)) ≡ f (get_or q k d)) → length (flat_map g q) ≡ sum_by f q
joined_len g f [] d h = refl
joined_len g f (x ∷ q) d h =
    length-append (g x) (flat_map g q) ∙ ap₂ ◌+◌ (h 0 (omega arith)) (joined_len g f q d (λ k b. h (suc k) (omega arith))) ∙ sym (sum_by-cons f x q)

pub front_len : {X A : Type 0} (g : X → List A) (f : X → ℕ) (q : List X) (n : ℕ) (d : X) → n ≤ length q → ((k : ℕ) → k < length q → length (g (get_or q k d)) ≡ f (get_or q k d)) → length (flat_map g (take n q)) ≡ sum_by f (take n q)
front_len g f q n d low h = joined_len g f (take n q) d (λ k b.
    let few : k < n = omega (arith, length-take-le n q low) in
    ap (λ x. length (g x)) (get_or-take n q k d few) ∙ h k (omega arith) ∙ ap f (sym (get_or-take n q k d few)))

-- lists that begin alike are cut alike there
pub cut_front : {X : Type 0} (xs : List X) (a w n : ℕ) → a + w ≤ n → take w (drop a (take n xs)) ≡ take w (drop a xs)
cut_front xs a w n h =
    let e : n ≡ a + (n - a) = omega arith in
    ap (λ m. take w (drop a (take m xs))) e ∙ ap (take w) (drop-take a (n - a) xs) ∙ take-take w (n - a) (drop a xs) (omega arith)

pub same_cut : {X : Type 0} (xs ys : List X) (a w n : ℕ) → a + w ≤ n → take n xs ≡ take n ys → take w (drop a xs) ≡ take w (drop a ys)
same_cut xs ys a w n h e = sym (cut_front xs a w n h) ∙ ap (λ l. take w (drop a l)) e ∙ cut_front ys a w n h

-- ---- lengths of rows

pub len_zero : (z : Offsets) (p : Part) (q : List (Option ℕ)) → items_len z p (take 0 q) ≡ 0
unfolding items_len
len_zero z p q = refl

pub len_more : (z : Offsets) (p : Part) (q : List (Option ℕ)) (k : ℕ) → k < length q → items_len z p (take (k + 1) q) ≡ items_len z p (take k q) + row_len z p (place_of p (get_or q k None))
unfolding items_len
len_more z p q k h = sum_by_more (λ o. row_len z p (place_of p o)) q k None h

pub len_within : (z : Offsets) (p : Part) (q : List (Option ℕ)) (k : ℕ) → k < length q → items_len z p (take (k + 1) q) ≤ items_len z p q
unfolding items_len
len_within z p q k h = omega (arith, sum_by_more (λ o. row_len z p (place_of p o)) q k None h, sum_by_more_le (λ o. row_len z p (place_of p o)) q k None h)

pub len_all : (z : Offsets) (p : Part) (q : List (Option ℕ)) (k : ℕ) → length q ≤ k → items_len z p (take k q) ≡ items_len z p q
len_all z p q k h = ap (items_len z p) (take_all k q h)

pub items_count : (z : Offsets) (p : Part) (q : List (Option ℕ)) → length (items_of z p q) ≡ items_len z p q
unfolding items_len items_of
items_count z p q = joined_len (λ o. row_items z p (place_of p o)) (λ o. row_len z p (place_of p o)) q None (λ k h. row_count (place_of p (get_or q k None)))
  where
    row_count : (o : Option ℕ) → length (row_items z p o) ≡ row_len z p o
    row_count None = refl
    row_count (Some i) = length-range_with_len (offset_at z p.offsets i) (offset_at z p.offsets (i + 1) - offset_at z p.offsets i)

-- ---- what a cut is

pub cut_ordered : (z : Offsets) (p : Part) (q : List (Option ℕ)) (n : ℕ) → AreCutAt z p q n → AreOrdered z p q
cut_ordered z p q n c = record { held = c.held; ordered = λ k i h e. cut_up z p n i (c.cut k i h e) }

pub range_more : (a n j : ℕ) → a + n ≡ j → range_with_len a (n + 1) ≡ range_with_len a n ++ j ∷ []
range_more a zero j e = ap (λ k. k ∷ []) (omega arith)
range_more a (suc n) j e = let m : suc n + 1 ≡ suc (n + 1) = omega arith in ap (range_with_len a) m ∙ ap (λ l. a ∷ l) (range_more (a + 1) n j (omega arith))

-- ---- the new offsets

pub new_cut : (z : Offsets) (p w : Part) (q : List (Option ℕ)) (n : ℕ) → w.offset ≡ 0 → w.len ≡ length q → AreOffsets z p q (length q) w.offsets → items_len z p q < limit_of z → items_len z p q ≤ n
    → (k : ℕ) → k < length q → is_cut z w n k ≡ true
new_cut z p w q n zero_offset len offs small room k h =
    let here = offs.ends k (omega arith) in
    let next = offs.ends (k + 1) (omega arith) in
    let more = len_more z p q k h in
    let whole = len_within z p q k h in
    cut_from z w n k (omega arith) (omega arith) (omega arith)

holds_from : (z : Offsets) (w : Part) → size_of z * (w.offset + w.len + 1) ≤ length w.offsets → holds_offsets z w ≡ true
holds_from z w h = or_right _ _ (le-leb _ _ h)

pub new_cuts : (z : Offsets) (p w : Part) (q : List (Option ℕ)) (n : ℕ) → w.offset ≡ 0 → w.len ≡ length q → size_of z * (length q + 1) ≤ length w.offsets → AreOffsets z p q (length q) w.offsets → items_len z p q < limit_of z → items_len z p q ≤ n
    → are_cut z w n ≡ true
new_cuts z p w q n zero_offset len long offs small room =
    let last : w.offset + w.len + 1 ≡ length q + 1 = omega arith in
    are_cut_from z w n (holds_from z w (subst (λ (m : ℕ). size_of z * m ≤ length w.offsets) (sym last) long))
    (λ i low high. new_cut z p w q n zero_offset len offs small room i (omega arith))

-- ---- texts and lists, cut by the new offsets

text_len : (z : Offsets) (p : Part) (o : Option ℕ) → ((i : ℕ) → o ≡ Some i → is_cut z p (length p.values) i ≡ true) → length (row_text z p o) ≡ row_len z p o
text_len z p None h = refl
text_len z p (Some i) h =
    let c = h i refl in
    let s = offset_at z p.offsets i in
    let e = offset_at z p.offsets (i + 1) in
    let end = cut_end z p (length p.values) i c in
    length-take-le (e - s) (drop s p.values) (omega (arith, length-drop s p.values))

some_len : (z : Offsets) (p : Part) (o : Option ℕ) (i : ℕ) → o ≡ Some i → row_len z p o ≡ offset_at z p.offsets (i + 1) - offset_at z p.offsets i
some_len z p o i e = ap (row_len z p) e

pub text_cell : (z : Offsets) (p : Part) (q : List (Option ℕ)) (out : List ℕ) (k i a b : ℕ) → AreCutAt z p q (length p.values) → take (items_len z p q) out ≡ texts_of z p q → k < length q
    → place_of p (get_or q k None) ≡ Some i → a ≡ items_len z p (take k q) → b ≡ items_len z p (take (k + 1) q)
    → slice_range out a b ≡ slice_range p.values (offset_at z p.offsets i) (offset_at z p.offsets (i + 1))
unfolding texts_of items_len
text_cell z p q out k i a b cut are h there from to =
    let g = λ (o : Option ℕ). row_text z p (place_of p o) in
    let f = λ (o : Option ℕ). row_len z p (place_of p o) in
    let each : (j : ℕ) → j < length q → length (g (get_or q j None)) ≡ f (get_or q j None) = λ j l. text_len z p (place_of p (get_or q j None)) (λ n e. cut.cut j n l e) in
    let total : length (flat_map g q) ≡ sum_by f q = joined_len g f q None each in
    let front : length (flat_map g (take k q)) ≡ sum_by f (take k q) = front_len g f q k None (omega arith) each in
    let own : length (g (get_or q k None)) ≡ f (get_or q k None) = each k h in
    let more : sum_by f (take (k + 1) q) ≡ sum_by f (take k q) + f (get_or q k None) = sum_by_more f q k None h in
    let within : sum_by f (take k q) + f (get_or q k None) ≤ sum_by f q = sum_by_more_le f q k None h in
    let size : b - a ≡ length (g (get_or q k None)) = omega arith in
    same_cut out (flat_map g q) a (b - a) (sum_by f q) (omega arith) (are ∙ sym (take_all (sum_by f q) (flat_map g q) (omega arith)))
    ∙ ap₂ (λ (m : ℕ) (n : ℕ). take m (drop n (flat_map g q))) size (from ∙ sym front)
    ∙ piece g q k None h
    ∙ ap (row_text z p) there

cut_map : {X Y : Type 0} (g : X → Y) (xs : List X) (a b : ℕ) → slice_range (map g xs) a b ≡ map g (slice_range xs a b)
cut_map g xs a b = ap (take (b - a)) (drop-map g a xs) ∙ take-map g (b - a) (drop a xs)

picked_some : (c : List RowValue) (places : List ℕ) → picked (map Some places) c ≡ map (λ i. get_or c i null) places
picked_some c [] = refl
picked_some c (i ∷ is) = ap (λ l. get_or c i null ∷ l) (picked_some c is)

-- rows from s on, of which the last is there, if there are any
pub range_reads : (c : List RowValue) (s n : ℕ) → n ≤ length c - s → map (λ i. get_or c i null) (range_with_len s n) ≡ take n (drop s c)
range_reads c s n h = ext_get_or null _ _ (length-map-range_with_len (λ i. get_or c i null) s n ∙ sym (length-take-le n (drop s c) (omega (arith, length-drop s c)))) (λ k b.
    let below : k < n = omega (arith, length-map-range_with_len (λ i. get_or c i null) s n) in
    get_or-map-range_with_len (λ i. get_or c i null) s n k (s + k) null below refl ∙ sym (get_or-take n (drop s c) k null below ∙ get_or-drop s c k null))

-- numbers that are cut out of some that are below n
cut_below : (xs : List ℕ) (n s a w : ℕ) → AreWithin (map Some xs) n → a + w ≤ length xs → take w (drop a xs) ≡ range_with_len s w → w ≤ n - s
cut_below xs n s a zero within room e = omega arith
cut_below xs n s a (suc w) within room e =
    let low : a + w < length xs = omega arith in
    let last : get_or xs (a + w) 0 ≡ s + w =
    sym (get_or-drop a xs w 0) ∙ sym (get_or-take (suc w) (drop a xs) w 0 (omega arith)) ∙ ap (λ (l : List ℕ). get_or l w 0) e ∙ get_or-range_with_len s (suc w) w 0 (omega arith) in
    let below = within.below (a + w) (s + w) (omega (arith, length-map xs Some)) (get_or-map Some xs (a + w) 0 None low ∙ ap Some last) in
    omega arith

pub list_cell : (z : Offsets) (p : Part) (q : List (Option ℕ)) (c : List RowValue) (k i a b : ℕ) → k < length q → place_of p (get_or q k None) ≡ Some i
    → offset_at z p.offsets i ≤ offset_at z p.offsets (i + 1) → AreWithin (map Some (items_of z p q)) (length c) → a ≡ items_len z p (take k q) → b ≡ items_len z p (take (k + 1) q)
    → slice_range (picked (map Some (items_of z p q)) c) a b ≡ slice_range c (offset_at z p.offsets i) (offset_at z p.offsets (i + 1))
unfolding items_of items_len
list_cell z p q c k i a b h there up within from to =
    let g = λ (o : Option ℕ). row_items z p (place_of p o) in
    let f = λ (o : Option ℕ). row_len z p (place_of p o) in
    let x = λ (i : ℕ). get_or c i null in
    let s = offset_at z p.offsets i in
    let e = offset_at z p.offsets (i + 1) in
    let each : (j : ℕ) → j < length q → length (g (get_or q j None)) ≡ f (get_or q j None) = λ j l. row_count (place_of p (get_or q j None)) in
    let front : length (flat_map g (take k q)) ≡ sum_by f (take k q) = front_len g f q k None (omega arith) each in
    let own : length (g (get_or q k None)) ≡ f (get_or q k None) = each k h in
    let more : sum_by f (take (k + 1) q) ≡ sum_by f (take k q) + f (get_or q k None) = sum_by_more f q k None h in
    let size : b - a ≡ length (g (get_or q k None)) = omega arith in
    let total : length (flat_map g q) ≡ sum_by f q = joined_len g f q None each in
    let inside : sum_by f (take k q) + f (get_or q k None) ≤ sum_by f q = sum_by_more_le f q k None h in
    let wide : b - a ≡ e - s = omega (arith, ap (row_len z p) there) in
    let row : take (b - a) (drop a (flat_map g q)) ≡ range_with_len s (e - s) =
    ap₂ (λ (m : ℕ) (n : ℕ). take m (drop n (flat_map g q))) size (from ∙ sym front) ∙ piece g q k None h ∙ ap (row_items z p) there in
    ap (λ (l : List RowValue). slice_range l a b) (picked_some c (flat_map g q))
    ∙ cut_map x (flat_map g q) a b ∙ ap (map x) row
    ∙ range_reads c s (e - s) (cut_below (flat_map g q) (length c) s a (e - s) within (omega arith) (ap (λ (m : ℕ). take m (drop a (flat_map g q))) (sym wide) ∙ row))
  where
    row_count : (o : Option ℕ) → length (row_items z p o) ≡ row_len z p o
    row_count None = refl
    row_count (Some i) = length-range_with_len (offset_at z p.offsets i) (offset_at z p.offsets (i + 1) - offset_at z p.offsets i)
