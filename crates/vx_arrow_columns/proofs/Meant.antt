-- A table that means a column is sound at any picks within its rows.
use Rattle.std.proofs.Common.{zero, suc, ◌≡◌, ℕ, ◌+◌, ◌*◌, ◌^◌, ◌<◌, ◌≤◌, Bool, true, false, cond, List, [], ◌∷◌, ◌++◌, length, get_or, take, drop, map, Option, Some, None, ap, sym, ◌∙◌, refl, subst, arith}
use Rattle.std.specs.Prelude.{replicate, ⊤}
use Rattle.std.specs.Option.{option_map}
use Rattle.std.proofs.lemmas.Bool.{and_parts, eqb-true, leb-true}
use Rattle.std.proofs.lemmas.List.{append-nil, get_or-drop, get_or-replicate, get_or-take, length-drop, length-map, length-replicate, length-take-le}
use Rattle.vx_arrow_image.specs.declared.format.Format.{Format}
use Rattle.vx_arrow_image.specs.declared.format.Format.TheVariants.{Nulls, Bits, Fixed, Text, Struct, List as Lists, FixedList, TextView, ListView, Union, DenseUnion}
use Rattle.vx_arrow_image.specs.declared.format.Offsets.{Offsets}
use Rattle.vx_arrow_image.specs.declared.refusal.Refusal.{Refusal}
use Rattle.vx_arrow_image.specs.declared.refusal.Refusal.TheVariants as refusals
use Rattle.vx_arrow_image.specs.Rows.{RowValue}
use Rattle.vx_arrow_image.specs.Image.{Part, all_valid, are_cut, column_in, columns_in, fits, has_child, holds_offsets, if_valid, is_dense, is_list_view, is_sound, is_valid, is_view, offset_at}
use Rattle.vx_arrow_image.proofs.CutRows.{are_cut_at, cut_end, range_at}
use Rattle.vx_arrow_image.proofs.SoundNodes.{has_ids, sound_fits, sound_placed}
use Rattle.vx_arrow_columns.specs.Answer.{IsPlanRefusal, IsUnmeant}
use Rattle.vx_arrow_columns.specs.Measured.{AreBelow}
use Rattle.vx_arrow_columns.specs.Picks.{Picking, all_rows, belows, fixed_items, inner, inner_picks, inners, items_of, pickings, place_of, row_items, splits}
use Rattle.vx_arrow_columns.specs.Planned.{are_trees, child_lens, tree_lens}
use Rattle.vx_arrow_columns.specs.Reached.{AreSoundAt}
use Rattle.vx_arrow_columns.specs.Sound.{HoldsBelow, IsSoundAt}
use Rattle.vx_arrow_columns.specs.Taken.{AllAt, AreCutAt, AreWithin, Holds}
use Rattle.vx_arrow_columns.proofs.Columns.{place_between}
use Rattle.vx_arrow_columns.proofs.DenseItems.{dense_below, dense_tagged, splits_dense}
use Rattle.vx_arrow_columns.proofs.FixedLists.{items_within}
use Rattle.vx_arrow_columns.proofs.Measures.{below_within}
use Rattle.vx_arrow_columns.proofs.PickReads.{all_picks, placed_end}
use Rattle.vx_arrow_columns.proofs.Plans.{long_at, moved_within, none_within}
use Rattle.vx_arrow_columns.proofs.MeasureSteps.{cut_any, items_all, items_more, items_zero, more_below, none_below, same_below}
use Rattle.vx_arrow_columns.proofs.Trees.{belows_len, child_columns, columns_lens, drop_first, drop_next, inners_same, lens_more, no_lens, nth_split, only_some, opened}

-- ---- one node

place_valid : (p : Part) (o : Option ℕ) (i : ℕ) → place_of p o ≡ Some i → is_valid p.valid i ≡ true
place_valid p None i e = absurd (let f : None ≡ Some i = e in cc)
place_valid p (Some k) i e = go (is_valid p.valid (p.offset + k)) refl
  where
    go : (v : Bool) → is_valid p.valid (p.offset + k) ≡ v → is_valid p.valid i ≡ true
    go true f =
        let there : Some (p.offset + k) ≡ Some i = sym (ap (λ b. cond b (Some (p.offset + k)) None) f) ∙ e in
        let same : p.offset + k ≡ i = cc in
        sym (ap (is_valid p.valid) same) ∙ f
    go false f = let there : None ≡ Some i = sym (ap (λ b. cond b (Some (p.offset + k)) None) f) ∙ e in absurd cc

valid_at : (p : Part) (q : List (Option ℕ)) (f : ℕ → Bool) → AreWithin q p.len → all_valid p f ≡ true → AllAt p q f
unfolding all_valid
valid_at p q f w a = record {
  all = λ k i h e.
      let between = place_between p q k i w h e in
      sym (ap (λ b. cond b (f i) true) (place_valid p (get_or q k None) i e)) ∙ range_at (if_valid p f) p.offset p.len i a between.0 between.1;
}

cuts_at : (z : Offsets) (p : Part) (q : List (Option ℕ)) (n : ℕ) → AreWithin q p.len → are_cut z p n ≡ true → AreCutAt z p q n
unfolding are_cut
cuts_at z p q n w a = record {
  held = (and_parts (holds_offsets z p) _ a).0;
  cut = λ k i h e. let between = place_between p q k i w h e in are_cut_at z p n i a between.0 between.1;
}

record Fits (f : Option Format) (p : Part) (q : List (Option ℕ)) (lens : List ℕ) : Type 0 where
  held : Holds f p q
  below : HoldsBelow f p q lens

fits_at : (f : Option Format) (p : Part) (q : List (Option ℕ)) (lens : List ℕ) → AreWithin q p.len → get_or lens 0 0 < 2 ^ 60 → length lens ≤ p.children → fits f p lens ≡ true → Fits f p q lens
fits_at None p q lens w few count a = absurd (let f : false ≡ true = a in cc)
fits_at (Some Nulls) p q lens w few count a = record { held = eqb-true _ _ a; below = tt }
fits_at (Some Bits) p q lens w few count a = let b = and_parts _ _ a in record { held = (eqb-true _ _ b.0, leb-true _ _ b.1); below = tt }
fits_at (Some Fixed) p q lens w few count a = let b = and_parts _ _ a in record { held = (eqb-true _ _ b.0, leb-true _ _ b.1); below = tt }
fits_at (Some (Text z)) p q lens w few count a = let b = and_parts _ _ a in record { held = (eqb-true _ _ b.0, cuts_at z p q (length p.values) w b.1); below = tt }
fits_at (Some Struct) p q lens w few count a = record { held = tt; below = a }
fits_at (Some (Lists z)) p q lens w few count a =
    let b = and_parts _ _ a in
    let cut = cuts_at z p q (get_or lens 0 0) w b.1 in
    record { held = (eqb-true _ _ b.0, cut_any z p q (get_or lens 0 0) cut); below = cut }
fits_at (Some FixedList) p q lens w few count a =
    let b = and_parts _ _ a in
    let low : (p.offset + p.len) * p.width ≤ get_or lens 0 0 = leb-true _ _ b.1 in
    record { held = (eqb-true _ _ b.0, omega arith); below = low }
fits_at (Some TextView) p q lens w few count a = let b = and_parts _ _ a in record { held = leb-true _ _ b.0; below = valid_at p q (is_view p lens) w b.1 }
fits_at (Some (ListView z)) p q lens w few count a =
    let b = and_parts _ _ a in
    let d = and_parts _ _ b.1 in
    let e = and_parts _ _ d.1 in
    record { held = (eqb-true _ _ b.0, d.0, e.0); below = valid_at p q (is_list_view z p (get_or lens 0 0)) w e.1 }
fits_at (Some Union) p q lens w few count a =
    let b = and_parts _ _ a in
    let d = and_parts _ _ b.1 in
    record {
      held = (b.0, record { all = λ k i h e. let between = place_between p q k i w h e in range_at (has_child p) p.offset p.len i d.1 between.0 between.1 });
      below = d.0;
    }
fits_at (Some DenseUnion) p q lens w few count a =
    let b = and_parts _ _ a in
    let d = and_parts _ _ b.1 in
    let has = has_ids p b.0 in
    let there = λ (k i : ℕ) (h : k < length q) (e : place_of p (get_or q k None) ≡ Some i). let between = place_between p q k i w h e in range_at (is_dense p lens) p.offset p.len i d.1 between.0 between.1 in
    record {
      held = (b.0, d.0, record { all = λ k i h e. dense_tagged p lens i has.ids count (there k i h e) });
      below = record { all = there };
    }

sound_there : (p : Part) (q : List (Option ℕ)) (lens : List ℕ) → is_sound p lens ≡ true → AreWithin q p.len → get_or lens 0 0 < 2 ^ 60 → length lens ≤ p.children → IsSoundAt p q lens
sound_there p q lens s w few count =
    let f = fits_at p.format p q lens w few count (sound_fits p lens p.format refl s) in
    record { placed = sound_placed p lens s; held = f.held; below = f.below }

-- ---- the picks of its children

items_below : (z : Offsets) (p : Part) (q : List (Option ℕ)) (n k : ℕ) → AreCutAt z p q n → k ≤ length q → AreBelow (items_of z p (take k q)) n
items_below z p q n zero c h = none_below (items_of z p (take 0 q)) n (items_zero z p q)
items_below z p q n (suc k) c h = subst (λ (m : ℕ). AreBelow (items_of z p (take m q)) n) (let e : k + 1 ≡ suc k = omega arith in e) (go (place_of p (get_or q k None)) refl (items_below z p q n k c (omega arith)))
  where
    go : (o : Option ℕ) → place_of p (get_or q k None) ≡ o → AreBelow (items_of z p (take k q)) n → AreBelow (items_of z p (take (k + 1) q)) n
    go None e b =
        same_below (items_of z p (take k q)) (items_of z p (take (k + 1) q)) n b
        (items_more z p q k (omega arith) ∙ ap (λ (o : Option ℕ). items_of z p (take k q) ++ row_items z p o) e ∙ append-nil (items_of z p (take k q)))
    go (Some i) e b =
        more_below (items_of z p (take k q)) (items_of z p (take (k + 1) q)) (offset_at z p.offsets i) (offset_at z p.offsets (i + 1)) n n b
        (items_more z p q k (omega arith) ∙ ap (λ (o : Option ℕ). items_of z p (take k q) ++ row_items z p o) e) (omega arith)
        (cut_end z p n i (c.cut k i (omega arith) e))

inner_by : (f : Option Format) (p : Part) (q : List (Option ℕ)) (lens : List ℕ) (j : ℕ) → p.offset + p.len < 2 ^ 60 → Holds f p q → HoldsBelow f p q lens → AreWithin q p.len → j < p.children → p.children ≡ length lens → AreWithin (inner_picks f p q) (get_or lens j 0)
inner_by None p q lens j few held b w h count = absurd held
inner_by (Some Nulls) p q lens j few held b w h count = none_within (get_or lens j 0)
inner_by (Some Bits) p q lens j few held b w h count = none_within (get_or lens j 0)
inner_by (Some Fixed) p q lens j few held b w h count = none_within (get_or lens j 0)
inner_by (Some (Text z)) p q lens j few held b w h count = none_within (get_or lens j 0)
inner_by (Some Struct) p q lens j few held b w h count = moved_within q (map (option_map (λ i. p.offset + i)) q) p.offset p.len (get_or lens j 0) refl w (long_at (p.offset + p.len) lens j b (omega arith))
inner_by (Some (Lists z)) p q lens j few held b w h count =
    let first : j ≡ 0 = omega (arith, held.0) in
    let all = items_below z p q (get_or lens 0 0) (length q) b (omega arith) in
    let places = items_of z p q in
    let bare = below_within places (get_or lens 0 0) (subst (λ (l : List ℕ). AreBelow l (get_or lens 0 0)) (items_all z p q (length q) (omega arith)) all) in
    subst (λ (n : ℕ). AreWithin (map Some places) (get_or lens n 0)) (sym first) (subst (λ (l : List (Option ℕ)). AreWithin l (get_or lens 0 0)) (all_picks places) bare)
inner_by (Some FixedList) p q lens j few held b w h count =
    let first : j ≡ 0 = omega (arith, held.0) in
    subst (λ (n : ℕ). AreWithin (fixed_items p q) (get_or lens n 0)) (sym first) (items_within p q (get_or lens 0 0) w b)
inner_by (Some TextView) p q lens j few held b w h count = none_within (get_or lens j 0)
inner_by (Some (ListView z)) p q lens j few held b w h count = none_within (get_or lens j 0)
inner_by (Some DenseUnion) p q lens j few held b w h count = none_within (get_or lens j 0)
inner_by (Some Union) p q lens j few held b w h count = moved_within q (map (option_map (λ i. p.offset + i)) q) p.offset p.len (get_or lens j 0) refl w (long_at (p.offset + p.len) lens j b (omega arith))

-- the picks of child j
below_at : (p : Part) (q : Picking) (lens : List ℕ) (j : ℕ) (d : Picking) → IsSoundAt p q.picks lens → AreWithin q.picks p.len → j < p.children → p.children ≡ length lens → AreWithin (get_or (belows p q) j d).picks (get_or lens j 0)
below_at p q lens j d s w h count = go q.kept
  where
    same : (x : Picking) → AreWithin x.picks (get_or lens j 0) → AreWithin (get_or (replicate p.children x) j d).picks (get_or lens j 0)
    same x a = subst (λ (y : Picking). AreWithin y.picks (get_or lens j 0)) (sym (get_or-replicate p.children j x d (omega (arith, length-replicate p.children x)))) a

    own : (b : Bool) → splits p.format ≡ b → AreWithin (get_or (inners p q) j d).picks (get_or lens j 0)
    own false e =
        subst (λ (l : List Picking). AreWithin (get_or l j d).picks (get_or lens j 0)) (sym (inners_same p q e))
        (same (inner p q) (inner_by p.format p q.picks lens j (placed_end p s.placed) s.held s.below w h count))
    own true e =
        let format = splits_dense p.format e in
        let held : Holds (Some DenseUnion) p q.picks = subst (λ (f : Option Format). Holds f p q.picks) format s.held in
        let below : HoldsBelow (Some DenseUnion) p q.picks lens = subst (λ (f : Option Format). HoldsBelow f p q.picks lens) format s.below in
        let has = has_ids p held.0 in
        subst (λ (y : Picking). AreWithin y.picks (get_or lens j 0)) (sym (nth_split p q j d e h)) (dense_below p q.picks lens j has.bare below)

    go : (b : Bool) → AreWithin (get_or (cond b (replicate p.children all_rows) (inners p q)) j d).picks (get_or lens j 0)
    go true = same all_rows (none_within (get_or lens j 0))
    go false = own (splits p.format) refl

-- ---- the whole table

-- each of the picks is below the length of its tree
abbrev pub AllWithin : List Picking → List ℕ → Type 0
AllWithin [] [] = ⊤
AllWithin [] (n ∷ lens) = ⊥
AllWithin (q ∷ qs) [] = ⊥
AllWithin (q ∷ qs) (n ∷ lens) = AreWithin q.picks n × AllWithin qs lens

within_all : (bs qs : List Picking) (lens : List ℕ) → length bs ≤ length lens → ((j : ℕ) (d : Picking) → j < length bs → AreWithin (get_or bs j d).picks (get_or lens j 0)) → AllWithin qs (drop (length bs) lens) → AllWithin (bs ++ qs) lens
within_all [] qs lens few h a = a
within_all (b ∷ bs) qs [] few h a = absurd (omega arith)
within_all (b ∷ bs) qs (n ∷ lens) few h a = (h 0 b (omega arith), within_all bs qs lens (omega arith) (λ j d low. h (suc j) d (omega arith)) a)

-- the trees of a table that means columns have fewer rows than 2^60
lens_small : (ps : List Part) (cs : List (List RowValue)) (j : ℕ) → columns_in ps ≡ Some cs → j < length (tree_lens ps) → get_or (tree_lens ps) j 0 < 2 ^ 60
lens_small [] cs j e h = absurd (omega (arith, no_lens 0 refl))
lens_small (p ∷ ps) cs j e h = subst (λ (l : List ℕ). get_or l j 0 < 2 ^ 60) (sym (lens_more p ps)) (go (λ k h. let op = opened p ps cs e in lens_small ps op.columns k op.rest h) j (omega (arith, ap length (lens_more p ps))))
  where
    go : ((k : ℕ) → k < length (tree_lens ps) → get_or (tree_lens ps) k 0 < 2 ^ 60) → (k : ℕ) → k < length (p.len ∷ drop p.children (tree_lens ps)) → get_or (p.len ∷ drop p.children (tree_lens ps)) k 0 < 2 ^ 60
    go rest zero low = let op = opened p ps cs e in let small = placed_end p (sound_placed p (map length (take p.children op.columns)) op.joined.sound) in omega arith
    go rest (suc k) low =
        let there : p.children + k < length (tree_lens ps) = omega (arith, length-drop p.children (tree_lens ps)) in
        subst (λ (n : ℕ). n < 2 ^ 60) (sym (get_or-drop p.children (tree_lens ps) k 0)) (rest (p.children + k) there)

columns_trees : (ps : List Part) (cs : List (List RowValue)) → columns_in ps ≡ Some cs → are_trees ps (length cs) ≡ true
columns_trees [] cs e = let f : [] ≡ cs = (let g : Some [] ≡ Some cs = e in cc) in sym (ap (λ (l : List (List RowValue)). are_trees [] (length l)) f)
columns_trees (p ∷ ps) cs e =
    let op = opened p ps cs e in
    let rest = drop p.children op.columns in
    let enough = op.joined.enough in
    ap (λ (l : List (List RowValue)). are_trees (p ∷ ps) (length l)) op.joined.whole
    ∙ ap (are_trees ps) (let n : p.children + length rest ≡ length op.columns = omega (arith, length-drop p.children op.columns) in n)
    ∙ columns_trees ps op.columns op.rest

first_small : (p : Part) (ps : List Part) (cs : List (List RowValue)) → columns_in ps ≡ Some cs → get_or (child_lens p ps) 0 0 < 2 ^ 60
first_small p ps cs e = go p.children (tree_lens ps) (λ h. lens_small ps cs 0 e h)
  where
    go : (c : ℕ) (lens : List ℕ) → (0 < length lens → get_or lens 0 0 < 2 ^ 60) → get_or (take c lens) 0 0 < 2 ^ 60
    go zero lens h = omega arith
    go (suc c) [] h = omega arith
    go (suc c) (n ∷ lens) h = h (omega arith)

all_sound : (ps : List Part) (qs : List Picking) (cs : List (List RowValue)) (k : ℕ) (d : Part) (r : Picking) → columns_in ps ≡ Some cs → AllWithin qs (tree_lens ps) → k < length ps
    → IsSoundAt (get_or ps k d) (get_or (pickings ps qs) k r).picks (child_lens (get_or ps k d) (drop (k + 1) ps))
all_sound [] qs cs k d r e w h = absurd (omega arith)
all_sound (p ∷ ps) [] cs k d r e w h = absurd (subst (AllWithin []) (lens_more p ps) w)
all_sound (p ∷ ps) (q ∷ qs) cs k d r e w h = go (λ j low. let op = opened p ps cs e in all_sound ps (belows p q ++ qs) op.columns j d r op.rest next low) k h
  where
    both : AreWithin q.picks p.len × AllWithin qs (drop p.children (tree_lens ps))
    both = subst (AllWithin (q ∷ qs)) (lens_more p ps) w

    few : p.children ≤ length (tree_lens ps)
    few =
        let op = opened p ps cs e in
        let enough = op.joined.enough in
        omega (arith, ap length (columns_lens ps op.columns op.rest), length-map op.columns (length {A = RowValue}))

    own : IsSoundAt p q.picks (child_lens p ps)
    own =
        let op = opened p ps cs e in
        sound_there p q.picks (child_lens p ps) (ap (is_sound p) (child_columns p ps op.columns op.rest) ∙ op.joined.sound) both.0 (first_small p ps op.columns op.rest) (omega (arith, length-take-le p.children (tree_lens ps) few))

    next : AllWithin (belows p q ++ qs) (tree_lens ps)
    next =
        let count = belows_len p q in
        let size : p.children ≡ length (child_lens p ps) = sym (length-take-le p.children (tree_lens ps) few) in
        within_all (belows p q) qs (tree_lens ps) (omega (arith, count, few))
        (λ j d low.
        let here : j < p.children = omega (arith, count) in
        subst (λ (n : ℕ). AreWithin (get_or (belows p q) j d).picks n) (get_or-take p.children (tree_lens ps) j 0 here) (below_at p q (child_lens p ps) j d own both.0 here size))
        (subst (λ (n : ℕ). AllWithin qs (drop n (tree_lens ps))) (sym count) both.1)

    go : ((j : ℕ) → j < length ps → IsSoundAt (get_or ps j d) (get_or (pickings ps (belows p q ++ qs)) j r).picks (child_lens (get_or ps j d) (drop (j + 1) ps)))
        → (k : ℕ) → k < length (p ∷ ps) → IsSoundAt (get_or (p ∷ ps) k d) (get_or (pickings (p ∷ ps) (q ∷ qs)) k r).picks (child_lens (get_or (p ∷ ps) k d) (drop (k + 1) (p ∷ ps)))
    go rest zero low = subst (λ (l : List Part). IsSoundAt p q.picks (child_lens p l)) (sym (drop_first p ps)) own
    go rest (suc k) low =
        subst (λ (l : List Part). IsSoundAt (get_or ps k d) (get_or (pickings ps (belows p q ++ qs)) k r).picks (child_lens (get_or ps k d) l)) (sym (drop_next p ps k))
        (rest k (omega arith))

pub sound_at : (parts : List Part) (q : Picking) (rows : List RowValue) → column_in parts ≡ Some rows → AreWithin q.picks (length rows) → AreSoundAt parts q
sound_at parts q rows e w =
    let one = only_some (columns_in parts) rows e in
    let within : AllWithin (q ∷ []) (tree_lens parts) = subst (AllWithin (q ∷ [])) (columns_lens parts (rows ∷ []) one) (w, tt) in
    record {
      tree = columns_trees parts (rows ∷ []) one;
      sound = λ k d r h own. all_sound parts (q ∷ []) (rows ∷ []) k d r one within h;
    }

-- ---- refusals

pub no_column : (parts : List Part) (q : Picking) (n : ℕ) (r : Refusal) → ((rows : List RowValue) → column_in parts ≡ Some rows → length rows ≡ n) → AreWithin q.picks n → IsPlanRefusal parts q n r → IsUnmeant (column_in parts) r
no_column parts q n (refusals.NoMeaning node lack) len w h = go (column_in parts) refl
  where
    go : (o : Option (List RowValue)) → column_in parts ≡ o → column_in parts ≡ None
    go None e = e
    go (Some rows) e = absurd (h (sound_at parts q rows e (subst (λ (m : ℕ). AreWithin q.picks m) (sym (len rows e)) w)))
no_column parts q n refusals.Beyond len w h = tt
no_column parts q n refusals.NullPick len w h = tt
no_column parts q n (refusals.Room node) len w h = tt
no_column parts q n (refusals.Overflow node) len w h = tt
no_column parts q n refusals.NoMemory len w h = tt
