-- Tables of whole trees whose nodes are each taken.
use Rattle.std.proofs.Common.{zero, suc, ◌≡◌, ℕ, ◌+◌, ◌<◌, ◌≤◌, Bool, true, false, cond, List, [], ◌∷◌, ◌++◌, length, get_or, take, drop, map, Option, Some, None, ap, ap₂, sym, ◌∙◌, refl, subst, arith, length-append}
use Rattle.std.specs.Prelude.{replicate}
use Rattle.std.specs.List.{range_with_len}
use Rattle.std.specs.Option.{option_and_then}
use Rattle.std.proofs.lemmas.List.FromFn.{get_or-map-range_with_len, length-map-range_with_len}
use Rattle.vx_arrow_image.specs.declared.format.Format.{Format}
use Rattle.vx_arrow_image.specs.declared.format.Format.TheVariants.{DenseUnion}
use Rattle.std.proofs.lemmas.Bool.{and_parts, leb-true, eqb-true}
use Rattle.std.proofs.lemmas.List.{length-drop, length-replicate, take-map, drop-map}
use Rattle.vx_arrow_image.specs.Rows.{RowValue}
use Rattle.vx_arrow_image.specs.Image.{Part, is_sound, column_of, with_part, columns_in, only}
use Rattle.vx_arrow_columns.specs.Picks.{Picking, all_rows, below, belows, dense_picking, inner, inners, inners_by, keeps, pickings, splits}
use Rattle.vx_arrow_columns.specs.Planned.{are_trees, child_lens, tree_lens}
use Rattle.vx_arrow_columns.specs.Taken.{AreInside, AreWithin, IsTaken}
use Rattle.vx_arrow_image.proofs.SoundNodes.{length_column}

-- a node before columns that it goes with
pub record Joined (p : Part) (cs ds : List (List RowValue)) : Type 0 where
  pub enough : p.children ≤ length cs
  pub sound : is_sound p (map length (take p.children cs)) ≡ true
  pub whole : ds ≡ column_of p (take p.children cs) ∷ drop p.children cs

joined_if : (p : Part) (cs ds : List (List RowValue)) (b : Bool) → (b ≡ true → (p.children ≤ length cs) × (is_sound p (map length (take p.children cs)) ≡ true))
    → cond b (Some (column_of p (take p.children cs) ∷ drop p.children cs)) None ≡ Some ds → Joined p cs ds
joined_if p cs ds true h e = let both = h refl in record { enough = both.0; sound = both.1; whole = (let f : Some (column_of p (take p.children cs) ∷ drop p.children cs) ≡ Some ds = e in cc) }
joined_if p cs ds false h e = absurd (let f : None ≡ Some ds = e in cc)

joined : (p : Part) (cs ds : List (List RowValue)) → with_part p cs ≡ Some ds → Joined p cs ds
unfolding with_part
joined p cs ds e = joined_if p cs ds _ (λ t. let parts = and_parts _ _ t in (leb-true _ _ parts.0, parts.1)) e

-- a node before a table with a meaning
pub record Opened (p : Part) (ps : List Part) (ds : List (List RowValue)) : Type 0 where
  pub columns : List (List RowValue)
  pub rest : columns_in ps ≡ Some columns
  pub joined : Joined p columns ds

open_from : (p : Part) (ps : List Part) (ds : List (List RowValue)) (o : Option (List (List RowValue))) → columns_in ps ≡ o → columns_in (p ∷ ps) ≡ Some ds → Opened p ps ds
open_from p ps ds None e f = absurd (let g : None ≡ Some ds = sym (ap (option_and_then (with_part p)) e) ∙ f in cc)
open_from p ps ds (Some cs) e f = record { columns = cs; rest = e; joined = joined p cs ds (sym (ap (option_and_then (with_part p)) e) ∙ f) }

pub opened : (p : Part) (ps : List Part) (ds : List (List RowValue)) → columns_in (p ∷ ps) ≡ Some ds → Opened p ps ds
opened p ps ds f = open_from p ps ds (columns_in ps) refl f

pub empty : {X : Type 0} (xs : List X) → length xs ≡ 0 → xs ≡ []
empty [] e = refl
empty (x ∷ xs) e = absurd (omega arith)

-- ---- how many rows the trees of a table have

pub lens_more : (p : Part) (ps : List Part) → tree_lens (p ∷ ps) ≡ p.len ∷ drop p.children (tree_lens ps)
unfolding tree_lens
lens_more p ps = refl

pub no_lens : (n : ℕ) → n ≡ 0 → length (tree_lens []) ≡ n
unfolding tree_lens
no_lens n e = sym e

-- as many as there are trees
pub lens_len : (ps : List Part) (n : ℕ) → are_trees ps n ≡ true → length (tree_lens ps) ≡ n
lens_len [] n t = no_lens n (eqb-true _ _ t)
lens_len (p ∷ ps) zero t = absurd (let f : false ≡ true = t in cc)
lens_len (p ∷ ps) (suc n) t = ap length (lens_more p ps) ∙ omega (arith, length-drop p.children (tree_lens ps), lens_len ps (p.children + n) t)

empty_lens : (cs : List (List RowValue)) → [] ≡ cs → map length cs ≡ tree_lens []
unfolding tree_lens
empty_lens cs e = ap (map length) (sym e)

-- the children of a node are the first trees behind it
pub next_trees : (is qs : List Picking) (n : ℕ) (ps : List Part) → length is ≡ n → are_trees ps (n + length qs) ≡ true → are_trees ps (length (is ++ qs)) ≡ true
next_trees is qs n ps e t = ap (are_trees ps) (length-append is qs ∙ ap (λ m. m + length qs) e) ∙ t

-- the columns that a table means have as many rows
pub columns_lens : (ps : List Part) (cs : List (List RowValue)) → columns_in ps ≡ Some cs → map length cs ≡ tree_lens ps
columns_lens [] cs e = empty_lens cs (let f : Some [] ≡ Some cs = e in cc)
columns_lens (p ∷ ps) cs e =
    let op = opened p ps cs e in
    ap (map length) op.joined.whole
    ∙ ap₂ ◌∷◌ (length_column p (take p.children op.columns)) (sym (drop-map length p.children op.columns) ∙ ap (drop p.children) (columns_lens ps op.columns op.rest))
    ∙ sym (lens_more p ps)

pub child_columns : (p : Part) (ps : List Part) (cs : List (List RowValue)) → columns_in ps ≡ Some cs → child_lens p ps ≡ map length (take p.children cs)
child_columns p ps cs e = ap (take p.children) (sym (columns_lens ps cs e)) ∙ take-map length p.children cs

-- ---- the picks of children

inners_len : (p : Part) (q : Picking) → length (inners p q) ≡ p.children
inners_len p q = go p.format
  where
    go : (f : Option Format) → length (inners_by f p q) ≡ p.children
    go (Some DenseUnion) = length-map-range_with_len (dense_picking p q) 0 p.children
    go f = length-replicate p.children (inner p q)

pub belows_len : (p : Part) (q : Picking) → length (belows p q) ≡ p.children
belows_len p q = go q.kept
  where
    go : (b : Bool) → length (cond b (replicate p.children all_rows) (inners p q)) ≡ p.children
    go true = length-replicate p.children all_rows
    go false = inners_len p q

pub inners_leaf : (p : Part) (q : Picking) → p.children ≡ 0 → inners p q ≡ replicate p.children (inner p q)
inners_leaf p q e = empty (inners p q) (inners_len p q ∙ e) ∙ sym (empty (replicate p.children (inner p q)) (length-replicate p.children (inner p q) ∙ e))

-- all children have the same picks but those of dense unions
pub inners_same : (p : Part) (q : Picking) → splits p.format ≡ false → inners p q ≡ replicate p.children (inner p q)
inners_same p q e = go p.format e
  where
    go : (f : Option Format) → splits f ≡ false → inners_by f p q ≡ replicate p.children (inner p q)
    go (Some DenseUnion) e = absurd (let g : true ≡ false = e in cc)
    go f e = refl

-- views have no picks of their own for each child
pub kept_same : (p : Part) → keeps p.format ≡ true → splits p.format ≡ false
kept_same p e = go p.format e
  where
    go : (f : Option Format) → keeps f ≡ true → splits f ≡ false
    go (Some DenseUnion) e = absurd (let g : false ≡ true = e in cc)
    go f e = refl

pub same_belows : (p : Part) (q : Picking) → splits p.format ≡ false → replicate p.children (below p q) ≡ belows p q
same_belows p q e = go q.kept
  where
    go : (b : Bool) → replicate p.children (cond b all_rows (inner p q)) ≡ cond b (replicate p.children all_rows) (inners p q)
    go true = refl
    go false = sym (inners_same p q e)

-- none of these is kept
abbrev pub NoneKept : List Picking → Type 0
NoneKept is = (j : ℕ) (d : Picking) → j < length is → (get_or is j d).kept ≡ false

same_kept : (n j : ℕ) (i d : Picking) → j < n → (get_or (replicate n i) j d).kept ≡ i.kept
same_kept zero j i d h = absurd (omega arith)
same_kept (suc n) zero i d h = refl
same_kept (suc n) (suc j) i d h = same_kept n j i d (omega arith)

pub inners_split : (p : Part) (q : Picking) → splits p.format ≡ true → inners p q ≡ map (dense_picking p q) (range_with_len 0 p.children)
inners_split p q e = go p.format e
  where
    go : (f : Option Format) → splits f ≡ true → inners_by f p q ≡ map (dense_picking p q) (range_with_len 0 p.children)
    go (Some DenseUnion) e = refl
    go f e = absurd (let g : false ≡ true = e in cc)

pub nth_split : (p : Part) (q : Picking) (j : ℕ) (d : Picking) → splits p.format ≡ true → j < p.children → get_or (inners p q) j d ≡ dense_picking p q j
nth_split p q j d e low =
    ap (λ (l : List Picking). get_or l j d) (inners_split p q e) ∙ get_or-map-range_with_len (dense_picking p q) 0 p.children j j d low (let z : 0 + j ≡ j = omega arith in z)

pub none_kept : (p : Part) (q : Picking) → keeps p.format ≡ false → NoneKept (inners p q)
none_kept p q e j d h = go (splits p.format) refl
  where
    go : (b : Bool) → splits p.format ≡ b → (get_or (inners p q) j d).kept ≡ false
    go false f =
        let same = inners_same p q f in
        ap (λ (l : List Picking). (get_or l j d).kept) same ∙ same_kept p.children j (inner p q) d (omega (arith, ap length same, length-replicate p.children (inner p q))) ∙ e
    go true f = ap (λ (i : Picking). i.kept) (nth_split p q j d f (omega (arith, inners_len p q)))

-- ---- each node taken

pub record AllTaken (ps ws : List Part) (qs : List Picking) : Type 0 where
  pub len : length ws ≡ length ps
  pub within : (k : ℕ) (d : Part) (r : Picking) → k < length ps → AreWithin (get_or (pickings ps qs) k r).picks (get_or ps k d).len
  pub taken : (k : ℕ) (d e : Part) (r : Picking) → k < length ps → IsTaken (get_or ps k d) (get_or ws k e) (get_or (pickings ps qs) k r)
  pub inside : (k : ℕ) (d : Part) (r : Picking) → k < length ps → (get_or (pickings ps qs) k r).kept ≡ false
      → AreInside (get_or ps k d) (get_or (pickings ps qs) k r).picks (child_lens (get_or ps k d) (drop (k + 1) ps))

-- each node that is kept is sound over its children
pub record KeptSound (ps : List Part) (qs : List Picking) : Type 0 where
  pub sound : (k : ℕ) (d : Part) (r : Picking) → k < length ps → (get_or (pickings ps qs) k r).kept ≡ true → is_sound (get_or ps k d) (child_lens (get_or ps k d) (drop (k + 1) ps)) ≡ true

pub drop_next : (p : Part) (ps : List Part) (k : ℕ) → drop (suc k + 1) (p ∷ ps) ≡ drop (k + 1) ps
drop_next p ps k = ap (λ n. drop n (p ∷ ps)) (let e : suc k + 1 ≡ suc (k + 1) = omega arith in e)

pub drop_first : (p : Part) (ps : List Part) → drop (0 + 1) (p ∷ ps) ≡ ps
drop_first p ps = ap (λ n. drop n (p ∷ ps)) (let e : 0 + 1 ≡ suc 0 = omega arith in e)

pub behind : (p w : Part) (ps ws : List Part) (q : Picking) (qs : List Picking) → AllTaken (p ∷ ps) (w ∷ ws) (q ∷ qs) → AllTaken ps ws (belows p q ++ qs)
behind p w ps ws q qs a = record {
  len = omega (arith, a.len);
  within = λ k d r h. a.within (suc k) d r (omega arith);
  taken = λ k d e r h. a.taken (suc k) d e r (omega arith);
  inside = λ k d r h own.
      let next = belows p q ++ qs in
      subst (λ (l : List Part). AreInside (get_or ps k d) (get_or (pickings ps next) k r).picks (child_lens (get_or ps k d) l)) (drop_next p ps k) (a.inside (suc k) d r (omega arith) own);
}

pub kept_behind : (p : Part) (ps : List Part) (q : Picking) (qs : List Picking) → KeptSound (p ∷ ps) (q ∷ qs) → KeptSound ps (belows p q ++ qs)
kept_behind p ps q qs s = record {
  sound = λ k d r h own. ap (λ (l : List Part). is_sound (get_or ps k d) (child_lens (get_or ps k d) l)) (sym (drop_next p ps k)) ∙ s.sound (suc k) d r (omega arith) own;
}

-- what a node has over its children's rows, which are so many
pub first_inside : (p w : Part) (ps ws : List Part) (q : Picking) (qs : List Picking) → AllTaken (p ∷ ps) (w ∷ ws) (q ∷ qs) → q.kept ≡ false → AreInside p q.picks (child_lens p ps)
first_inside p w ps ws q qs a own = subst (λ (l : List Part). AreInside p q.picks (child_lens p l)) (drop_first p ps) (a.inside 0 p q (omega arith) own)

pub first_sound : (p : Part) (ps : List Part) (q : Picking) (qs : List Picking) → KeptSound (p ∷ ps) (q ∷ qs) → q.kept ≡ true → is_sound p (child_lens p ps) ≡ true
first_sound p ps q qs s own = ap (λ (l : List Part). is_sound p (child_lens p l)) (sym (drop_first p ps)) ∙ s.sound 0 p q (omega arith) own

-- ---- a table that is one column

pub only_some : (o : Option (List (List RowValue))) (rows : List RowValue) → only o ≡ Some rows → o ≡ Some (rows ∷ [])
only_some None rows e = absurd (let f : None ≡ Some rows = e in cc)
only_some (Some []) rows e = absurd (let f : None ≡ Some rows = e in cc)
only_some (Some (c ∷ [])) rows e = ap (λ (l : List RowValue). Some (l ∷ [])) (let f : Some c ≡ Some rows = e in cc)
only_some (Some (c ∷ (d ∷ cs))) rows e = absurd (let f : None ≡ Some rows = e in cc)
