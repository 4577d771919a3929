-- What is written is sound.
use Rattle.std.proofs.Common.{zero, suc, ◌≡◌, ℕ, ◌+◌, ◌≤◌, Bool, true, false, cond, List, [], ◌∷◌, ◌++◌, length, get_or, take, drop, map, Some, ap, ap₂, sym, ◌∙◌, refl, arith, length-append}
use Rattle.std.specs.Prelude.{replicate}
use Rattle.std.specs.Option.{option_and_then}
use Rattle.std.proofs.lemmas.Bool.{eqb-true}
use Rattle.std.proofs.lemmas.List.{length-map, length-drop, take-map, drop-map, drop-drop}
use Rattle.vx_arrow_image.specs.Rows.{RowValue}
use Rattle.vx_arrow_image.specs.Image.{Part, is_sound, column_of, with_part, columns_in, column_in, only}
use Rattle.vx_arrow_columns.specs.Picks.{Picking, all_rows, belows, inner, inners, keeps}
use Rattle.vx_arrow_columns.specs.Planned.{are_trees, child_lens, tree_lens}
use Rattle.vx_arrow_columns.specs.Taken.{AreInside, IsOwnTaken, IsViewTaken, TakenAs}
use Rattle.vx_arrow_image.proofs.SoundNodes.{length_column, with_part_is}
use Rattle.vx_arrow_columns.proofs.Trees.{inners_same, kept_same, AllTaken, KeptSound, NoneKept, behind, belows_len, first_inside, first_sound, kept_behind, lens_len, lens_more, next_trees, none_kept}

-- ---- how many rows are written

-- how many rows the trees have at these picks, where they have so many of their own
pub lens_at : List Picking → List ℕ → List ℕ
lens_at [] ls = []
lens_at (q ∷ qs) ls = cond q.kept (get_or ls 0 0) (length q.picks) ∷ lens_at qs (drop 1 ls)

-- of n children of one node
abbrev lens_by : Picking → ℕ → List ℕ → List ℕ
lens_by i n ls = cond i.kept (take n ls) (replicate n (length i.picks))

lens_some : (i : Picking) (n : ℕ) (ls : List ℕ) → suc n ≤ length ls → cond i.kept (get_or ls 0 0) (length i.picks) ∷ lens_by i n (drop 1 ls) ≡ lens_by i (suc n) ls
lens_some i n [] h = absurd (omega arith)
lens_some i n (l ∷ ls) h = go i.kept
  where
    go : (b : Bool) → cond b l (length i.picks) ∷ cond b (take n ls) (replicate n (length i.picks)) ≡ cond b (l ∷ take n ls) (length i.picks ∷ replicate n (length i.picks))
    go true = refl
    go false = refl

same_lens : (b : Bool) (ls : List ℕ) → ls ≡ cond b ls ls
same_lens true ls = refl
same_lens false ls = refl

lens_none : (i : Picking) (ls : List ℕ) → [] ≡ lens_by i 0 ls
lens_none i ls = same_lens i.kept []

-- the children of one node have the same picks
lens_same : (n : ℕ) (i : Picking) (ls : List ℕ) → n ≤ length ls → lens_at (replicate n i) ls ≡ lens_by i n ls
unfolding lens_at
lens_same zero i ls h = lens_none i ls
lens_same (suc n) i ls h =
    ap (λ l. cond i.kept (get_or ls 0 0) (length i.picks) ∷ l) (lens_same n i (drop 1 ls) (omega (arith, length-drop 1 ls)))
    ∙ lens_some i n ls h

lens_front : (is qs : List Picking) (n : ℕ) (ls : List ℕ) → length is ≡ n → take n (lens_at (is ++ qs) ls) ≡ lens_at is ls
unfolding lens_at
lens_front is qs n ls e = sym (ap (λ m. take m (lens_at (is ++ qs) ls)) e) ∙ go is ls
  where
    go : (is : List Picking) (ls : List ℕ) → take (length is) (lens_at (is ++ qs) ls) ≡ lens_at is ls
    go [] ls = refl
    go (i ∷ is) ls = ap (λ l. cond i.kept (get_or ls 0 0) (length i.picks) ∷ l) (go is (drop 1 ls))

lens_back : (is qs : List Picking) (n : ℕ) (ls : List ℕ) → length is ≡ n → drop n (lens_at (is ++ qs) ls) ≡ lens_at qs (drop n ls)
unfolding lens_at
lens_back is qs n ls e = sym (ap (λ m. drop m (lens_at (is ++ qs) ls)) e) ∙ go is ls ∙ ap (λ m. lens_at qs (drop m ls)) e
  where
    go : (is : List Picking) (ls : List ℕ) → drop (length is) (lens_at (is ++ qs) ls) ≡ lens_at qs (drop (length is) ls)
    go [] ls = refl
    go (i ∷ is) ls = go is (drop 1 ls) ∙ ap (lens_at qs) (drop-drop (length is) 1 ls ∙ ap (λ m. drop m ls) (let f : 1 + length is ≡ suc (length is) = omega arith in f))

length_at : (qs : List Picking) (ls : List ℕ) → length (lens_at qs ls) ≡ length qs
unfolding lens_at
length_at [] ls = refl
length_at (q ∷ qs) ls = omega (arith, length_at qs (drop 1 ls))

pub record Sound (ws : List Part) (qs : List Picking) (ls : List ℕ) : Type 0 where
  pub columns : List (List RowValue)
  pub are : columns_in ws ≡ Some columns
  pub lens : map length columns ≡ lens_at qs ls

no_pickings : (qs : List Picking) (ls : List ℕ) → length qs ≡ 0 → Sound [] qs ls
unfolding lens_at
no_pickings [] ls e = record { columns = []; are = refl; lens = refl }
no_pickings (q ∷ qs) ls e = absurd (omega arith)

-- a written node over its children's rows, which are as many as they should be
record NodeSound (p w : Part) (ps : List Part) (q : Picking) : Type 0 where
  children : w.children ≡ p.children
  sound : is_sound w (lens_at (belows p q) (tree_lens ps)) ≡ true
  len : w.len ≡ cond q.kept p.len (length q.picks)

kept_sound : (p w : Part) (ps : List Part) (q : Picking) → p.children ≤ length (tree_lens ps) → q.kept ≡ true → w ≡ p → is_sound p (child_lens p ps) ≡ true → NodeSound p w ps q
kept_sound p w ps q few own same sound = record {
  children = ap (λ (x : Part). x.children) same;
  sound = ap₂ (λ (x : Part) (b : Bool). is_sound x (lens_at (cond b (replicate p.children all_rows) (inners p q)) (tree_lens ps))) same own
      ∙ ap (is_sound p) (lens_same p.children all_rows (tree_lens ps) few) ∙ sound;
  len = ap (λ (x : Part). x.len) same ∙ sym (ap (λ b. cond b p.len (length q.picks)) own);
}

view_sound : (p w : Part) (ps : List Part) (q : Picking) → p.children ≤ length (tree_lens ps) → q.kept ≡ false → keeps p.format ≡ true → IsViewTaken p w q → AreInside p q.picks (child_lens p ps) → NodeSound p w ps q
view_sound p w ps q few own keeping v inside = record {
  children = v.children;
  sound = ap (λ b. is_sound w (lens_at (cond b (replicate p.children all_rows) (inners p q)) (tree_lens ps))) own
      ∙ ap (λ (l : List Picking). is_sound w (lens_at l (tree_lens ps))) (inners_same p q (kept_same p keeping)) ∙ ap (is_sound w) (lens_same p.children (inner p q) (tree_lens ps) few)
      ∙ ap (λ b. is_sound w (cond b (take p.children (tree_lens ps)) (replicate p.children (length (inner p q).picks)))) keeping ∙ v.sound (child_lens p ps) inside;
  len = v.len ∙ sym (ap (λ b. cond b p.len (length q.picks)) own);
}

-- children that aren't kept have as many rows as picks
lens_own : (is : List Picking) (ls : List ℕ) → NoneKept is → lens_at is ls ≡ map (λ (i : Picking). length i.picks) is
unfolding lens_at
lens_own [] ls e = refl
lens_own (i ∷ is) ls e = ap₂ ◌∷◌ (ap (λ b. cond b (get_or ls 0 0) (length i.picks)) (e 0 i (omega arith))) (lens_own is (drop 1 ls) (λ j d h. e (suc j) d (omega arith)))

own_sound : (p w : Part) (ps : List Part) (q : Picking) → q.kept ≡ false → keeps p.format ≡ false → IsOwnTaken p w q → NodeSound p w ps q
own_sound p w ps q own keeping t = record {
  children = t.children;
  sound = ap (λ b. is_sound w (lens_at (cond b (replicate p.children all_rows) (inners p q)) (tree_lens ps))) own
      ∙ ap (is_sound w) (lens_own (inners p q) (tree_lens ps) (none_kept p q keeping)) ∙ t.sound;
  len = t.len ∙ sym (ap (λ b. cond b p.len (length q.picks)) own);
}

node_sound : (p w : Part) (ps : List Part) (q : Picking) (k e : Bool) → p.children ≤ length (tree_lens ps) → q.kept ≡ k → keeps p.format ≡ e → TakenAs k e p w q → (q.kept ≡ true → is_sound p (child_lens p ps) ≡ true) → (q.kept ≡ false → AreInside p q.picks (child_lens p ps)) → NodeSound p w ps q
node_sound p w ps q true e few own keeping t sound inside = kept_sound p w ps q few own t (sound own)
node_sound p w ps q false true few own keeping t sound inside = view_sound p w ps q few own keeping t (inside own)
node_sound p w ps q false false few own keeping t sound inside = own_sound p w ps q own keeping t

at_more : (q : Picking) (qs : List Picking) (l : ℕ) (ls : List ℕ) → cond q.kept l (length q.picks) ∷ lens_at qs ls ≡ lens_at (q ∷ qs) (l ∷ ls)
unfolding lens_at
at_more q qs l ls = refl

-- what is written is sound, whatever the source is, where what is kept is
pub sound_trees : (ps ws : List Part) (qs : List Picking) → are_trees ps (length qs) ≡ true → AllTaken ps ws qs → KeptSound ps qs → Sound ws qs (tree_lens ps)
sound_trees [] [] qs t a s = no_pickings qs (tree_lens []) (eqb-true _ _ t)
sound_trees [] (w ∷ ws) qs t a s = absurd (omega (arith, a.len))
sound_trees (p ∷ ps) [] qs t a s = absurd (omega (arith, a.len))
sound_trees (p ∷ ps) (w ∷ ws) [] t a s = absurd (let f : false ≡ true = t in cc)
sound_trees (p ∷ ps) (w ∷ ws) (q ∷ qs) t a kept =
    let is = belows p q in
    let size = belows_len p q in
    let n = p.children in
    let ls = tree_lens ps in
    let next = is ++ qs in
    let trees : are_trees ps (n + length qs) ≡ true = t in
    let many : length ls ≡ n + length qs = lens_len ps (n + length qs) trees in
    let s = sound_trees ps ws next (next_trees is qs n ps size trees) (behind p w ps ws q qs a) (kept_behind p ps q qs kept) in
    let own = node_sound p w ps q q.kept (keeps p.format) (omega arith) refl refl (a.taken 0 p w q (omega arith)) (first_sound p ps q qs kept) (first_inside p w ps ws q qs a) in
    let same = own.children in
    let front : map length (take w.children s.columns) ≡ lens_at is ls
    = sym (take-map length w.children s.columns) ∙ ap₂ (λ (m : ℕ) (l : List ℕ). take m l) same s.lens ∙ lens_front is qs n ls size in
    let back : map length (drop w.children s.columns) ≡ lens_at qs (drop n ls)
    = sym (drop-map length w.children s.columns) ∙ ap₂ (λ (m : ℕ) (l : List ℕ). drop m l) same s.lens ∙ lens_back is qs n ls size in
    let count : length s.columns ≡ n + length qs
    = sym (length-map s.columns length) ∙ ap length s.lens ∙ length_at next ls ∙ length-append is qs ∙ ap (λ m. m + length qs) size in
    record {
      columns = column_of w (take w.children s.columns) ∷ drop w.children s.columns;
      are = ap (option_and_then (with_part w)) s.are ∙ with_part_is w s.columns (omega arith) (ap (is_sound w) front ∙ own.sound);
      lens = ap₂ ◌∷◌ (length_column w (take w.children s.columns) ∙ own.len) back ∙ at_more q qs p.len (drop n ls) ∙ ap (lens_at (q ∷ qs)) (sym (lens_more p ps));
    }

one_some : (cs : List (List RowValue)) → length cs ≡ 1 → (c : List RowValue) × (only (Some cs) ≡ Some c)
one_some [] e = absurd (omega arith)
one_some (c ∷ []) e = (c, refl)
one_some (c ∷ (d ∷ cs)) e = absurd (omega arith)

pub sound_column : (ps ws : List Part) (q : Picking) → are_trees ps 1 ≡ true → AllTaken ps ws (q ∷ []) → KeptSound ps (q ∷ []) → (c : List RowValue) × (column_in ws ≡ Some c)
sound_column ps ws q t a kept =
    let s = sound_trees ps ws (q ∷ []) t a kept in
    let there = one_some s.columns (sym (length-map s.columns length) ∙ ap length s.lens ∙ length_at (q ∷ []) (tree_lens ps)) in
    (there.0, ap only s.are ∙ there.1)
