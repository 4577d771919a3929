-- What is written has the rows at the picks.
use Rattle.std.proofs.Common.{zero, suc, ◌≡◌, ℕ, Bool, true, false, cond, List, [], ◌∷◌, ◌++◌, length, take, drop, ap, ap₂, sym, ◌∙◌, refl, subst, arith, get_or, ◌<◌}
use Rattle.std.specs.Prelude.{replicate}
use Rattle.std.proofs.lemmas.Bool.{eqb-true}
use Rattle.vx_arrow_image.specs.Rows.{RowValue, picked}
use Rattle.vx_arrow_image.specs.Image.{Part, column_of}
use Rattle.vx_arrow_columns.specs.Picks.{Picking, all_rows, belows, inner, inners, keeps, tags, is_union}
use Rattle.vx_arrow_columns.specs.Planned.{are_trees}
use Rattle.vx_arrow_columns.specs.Read.{columns_read, rows_read}
use Rattle.vx_arrow_columns.specs.Taken.{AreWithin, IsOwnTaken, IsViewTaken, TakenAs, AreAt, AreChildrenAt, AreFull}
use Rattle.vx_arrow_columns.proofs.ReadTrees.{first_rows, read_more}
use Rattle.vx_arrow_columns.proofs.RowsAt.{column_at, exact, looser}
use Rattle.vx_arrow_columns.proofs.Trees.{inners_same, kept_same, NoneKept, belows_len, none_kept, AllTaken, behind, next_trees}

-- ---- columns over columns

-- a column's rows as they stand where they are kept, and else those at picks
abbrev pub ColumnAt : Bool → Bool → Picking → List RowValue → List RowValue → Type 0
ColumnAt true loose q rows new = new ≡ rows
ColumnAt false loose q rows new = AreAt loose q.picks rows new

loose_column : (k b : Bool) (q : Picking) (rows new : List RowValue) → ColumnAt k b q rows new → ColumnAt k true q rows new
loose_column true b q rows new h = h
loose_column false b q rows new h = looser b q.picks rows new h

kept_column : (k b : Bool) (q : Picking) (rows new : List RowValue) → k ≡ true → ColumnAt k b q rows new → new ≡ rows
kept_column true b q rows new e h = h
kept_column false b q rows new e h = absurd (let f : false ≡ true = e in cc)

own_column : (k b : Bool) (q : Picking) (rows new : List RowValue) → k ≡ false → ColumnAt k b q rows new → AreAt b q.picks rows new
own_column true b q rows new e h = absurd (let f : true ≡ false = e in cc)
own_column false b q rows new e h = h

-- the same of each column
pub EachAt : List Picking → List (List RowValue) → List (List RowValue) → Type 0
EachAt [] [] [] = Unit {0}
EachAt [] [] (d ∷ ds) = ⊥
EachAt [] (c ∷ cs) ds = ⊥
EachAt (q ∷ qs) [] ds = ⊥
EachAt (q ∷ qs) (c ∷ cs) [] = ⊥
EachAt (q ∷ qs) (c ∷ cs) (d ∷ ds) = ColumnAt q.kept true q c d × EachAt qs cs ds

each_split : (is qs : List Picking) (n : ℕ) (cs ds : List (List RowValue)) → length is ≡ n → EachAt (is ++ qs) cs ds → EachAt is (take n cs) (take n ds) × EachAt qs (drop n cs) (drop n ds)
unfolding EachAt
each_split is qs n cs ds e h = subst (λ (m : ℕ). EachAt is (take m cs) (take m ds) × EachAt qs (drop m cs) (drop m ds)) e (go is cs ds h)
  where
    go : (is : List Picking) (cs ds : List (List RowValue)) → EachAt (is ++ qs) cs ds → EachAt is (take (length is) cs) (take (length is) ds) × EachAt qs (drop (length is) cs) (drop (length is) ds)
    go [] cs ds h = (tt, h)
    go (i ∷ is) [] ds h = absurd h
    go (i ∷ is) (c ∷ cs) [] h = absurd h
    go (i ∷ is) (c ∷ cs) (d ∷ ds) h = let both = go is cs ds h.1 in ((h.0, both.0), both.1)

each_len : (qs : List Picking) (cs ds : List (List RowValue)) → EachAt qs cs ds → (length cs ≡ length qs) × (length ds ≡ length qs)
unfolding EachAt
each_len [] [] [] h = (refl, refl)
each_len [] [] (d ∷ ds) h = absurd h
each_len [] (c ∷ cs) ds h = absurd h
each_len (q ∷ qs) [] ds h = absurd h
each_len (q ∷ qs) (c ∷ cs) [] h = absurd h
each_len (q ∷ qs) (c ∷ cs) (d ∷ ds) h = let both = each_len qs cs ds h.1 in (omega (arith, both.0), omega (arith, both.1))

each_kept : (n : ℕ) (i : Picking) (cs ds : List (List RowValue)) → i.kept ≡ true → EachAt (replicate n i) cs ds → ds ≡ cs
unfolding EachAt
each_kept zero i [] [] e h = refl
each_kept zero i [] (d ∷ ds) e h = absurd h
each_kept zero i (c ∷ cs) ds e h = absurd h
each_kept (suc n) i [] ds e h = absurd h
each_kept (suc n) i (c ∷ cs) [] e h = absurd h
each_kept (suc n) i (c ∷ cs) (d ∷ ds) e h = ap₂ ◌∷◌ (kept_column i.kept true i c d e h.0) (each_kept n i cs ds e h.1)

child_at : (is : List Picking) (cs ds : List (List RowValue)) (j : ℕ) (d : Picking) → (get_or is j d).kept ≡ false → EachAt is cs ds → j < length is → AreAt true (get_or is j d).picks (get_or cs j []) (get_or ds j [])
unfolding EachAt
child_at [] cs ds j k e h low = absurd (omega arith)
child_at (i ∷ is) [] ds j k e h low = absurd h
child_at (i ∷ is) (c ∷ cs) [] j k e h low = absurd h
child_at (i ∷ is) (c ∷ cs) (d ∷ ds) zero k e h low = own_column i.kept true i c d e h.0
child_at (i ∷ is) (c ∷ cs) (d ∷ ds) (suc j) k e h low = child_at is cs ds j k e h.1 (omega arith)

children_at : (is : List Picking) (cs ds : List (List RowValue)) → NoneKept is → EachAt is cs ds → AreChildrenAt is cs ds
children_at is cs ds e h =
    let both = each_len is cs ds h in
    record { old_len = both.0; new_len = both.1; at = λ j k low. child_at is cs ds j k (e j k low) h low }

-- ---- one node

-- a written node over its children's columns
record NodePicked (p w : Part) (q : Picking) (cs ds : List (List RowValue)) : Type 0 where
  children : w.children ≡ p.children
  column : ColumnAt q.kept (tags p.format) q (column_of p cs) (column_of w ds)

kept_picked : (p w : Part) (q : Picking) (cs ds : List (List RowValue)) → q.kept ≡ true → w ≡ p → ds ≡ cs → NodePicked p w q cs ds
kept_picked p w q cs ds own same front = record {
  children = ap (λ (x : Part). x.children) same;
  column = subst (λ (b : Bool). ColumnAt b (tags p.format) q (column_of p cs) (column_of w ds)) (sym own) (ap₂ column_of same front);
}

view_picked : (p w : Part) (q : Picking) (cs ds : List (List RowValue)) → q.kept ≡ false → IsViewTaken p w q → ds ≡ cs → AreWithin q.picks p.len → NodePicked p w q cs ds
view_picked p w q cs ds own v front within = record {
  children = v.children;
  column = subst (λ (b : Bool). ColumnAt b (tags p.format) q (column_of p cs) (column_of w ds)) (sym own)
      (column_at p q.picks cs (column_of w ds) within (ap (column_of w) front ∙ v.column cs));
}

own_picked : (p w : Part) (q : Picking) (cs ds : List (List RowValue)) → q.kept ≡ false → IsOwnTaken p w q → AreChildrenAt (inners p q) cs ds → NodePicked p w q cs ds
own_picked p w q cs ds own t at = record {
  children = t.children;
  column = subst (λ (b : Bool). ColumnAt b (tags p.format) q (column_of p cs) (column_of w ds)) (sym own) (t.column cs ds at);
}

node_picked : (p w : Part) (q : Picking) (cs ds : List (List RowValue)) (k e : Bool) → q.kept ≡ k → keeps p.format ≡ e → TakenAs k e p w q → EachAt (belows p q) cs ds → AreWithin q.picks p.len → NodePicked p w q cs ds
node_picked p w q cs ds true e own keeping t each within =
    let is : belows p q ≡ replicate p.children all_rows = ap (λ b. cond b (replicate p.children all_rows) (inners p q)) own in
    kept_picked p w q cs ds own t (each_kept p.children all_rows cs ds refl (subst (λ (l : List Picking). EachAt l cs ds) is each))
node_picked p w q cs ds false true own keeping t each within =
    let is : belows p q ≡ replicate p.children (inner p q) = ap (λ b. cond b (replicate p.children all_rows) (inners p q)) own ∙ inners_same p q (kept_same p keeping) in
    view_picked p w q cs ds own t (each_kept p.children (inner p q) cs ds keeping (subst (λ (l : List Picking). EachAt l cs ds) is each)) within
node_picked p w q cs ds false false own keeping t each within =
    let is : belows p q ≡ inners p q = ap (λ b. cond b (replicate p.children all_rows) (inners p q)) own in
    own_picked p w q cs ds own t (children_at (inners p q) cs ds (none_kept p q keeping) (subst (λ (l : List Picking). EachAt l cs ds) is each))

-- ---- trees

-- what is written reads as the columns of the source at the picks, the first one exactly
record ReadAt (p w : Part) (ps ws : List Part) (q : Picking) (qs : List Picking) : Type 0 where
  first : ColumnAt q.kept (tags p.format) q (rows_read (p ∷ ps)) (rows_read (w ∷ ws))
  each : EachAt (q ∷ qs) (columns_read (p ∷ ps)) (columns_read (w ∷ ws))

first_read : (p w : Part) (ps ws : List Part) (q : Picking) (qs : List Picking) → AllTaken (p ∷ ps) (w ∷ ws) (q ∷ qs) → EachAt (belows p q ++ qs) (columns_read ps) (columns_read ws) → ReadAt p w ps ws q qs
unfolding EachAt
first_read p w ps ws q qs a to =
    let n = p.children in
    let cs = columns_read ps in
    let ds = columns_read ws in
    let split = each_split (belows p q) qs n cs ds (belows_len p q) to in
    let node = node_picked p w q (take n cs) (take n ds) q.kept (keeps p.format) refl refl (a.taken 0 p w q (omega arith)) split.0 (a.within 0 p q (omega arith)) in
    let old = column_of p (take n cs) in
    let new = column_of w (take n ds) in
    let is : columns_read (w ∷ ws) ≡ new ∷ drop n ds = read_more w ws ∙ ap (λ m. column_of w (take m ds) ∷ drop m ds) node.children in
    record {
      first = subst (λ (c : List RowValue). ColumnAt q.kept (tags p.format) q c (rows_read (w ∷ ws))) (sym (first_rows p ps))
          (subst (λ (d : List RowValue). ColumnAt q.kept (tags p.format) q old d) (sym (ap (λ (l : List (List RowValue)). get_or l 0 []) is)) node.column);
      each = subst (λ (l : List (List RowValue)). EachAt (q ∷ qs) l (columns_read (w ∷ ws))) (sym (read_more p ps))
          (subst (λ (l : List (List RowValue)). EachAt (q ∷ qs) (old ∷ drop n cs) l) (sym is) (loose_column q.kept (tags p.format) q old new node.column, split.1));
    }

no_columns : (qs : List Picking) → length qs ≡ 0 → EachAt qs (columns_read []) (columns_read [])
unfolding EachAt columns_read
no_columns [] e = tt
no_columns (q ∷ qs) e = absurd (omega arith)

trees_read : (ps ws : List Part) (qs : List Picking) → are_trees ps (length qs) ≡ true → AllTaken ps ws qs → EachAt qs (columns_read ps) (columns_read ws)
trees_read [] [] qs t a = no_columns qs (eqb-true _ _ t)
trees_read [] (w ∷ ws) qs t a = absurd (omega (arith, a.len))
trees_read (p ∷ ps) [] qs t a = absurd (omega (arith, a.len))
trees_read (p ∷ ps) (w ∷ ws) [] t a = absurd (let f : false ≡ true = t in cc)
trees_read (p ∷ ps) (w ∷ ws) (q ∷ qs) t a =
    let rest = trees_read ps ws (belows p q ++ qs) (next_trees (belows p q) qs p.children ps (belows_len p q) t) (behind p w ps ws q qs a) in
    let own = first_read p w ps ws q qs a rest in own.each

-- whatever the source's other rows are, what is written reads as its rows at the picks
pub rows_picked : (ps ws : List Part) (q : Picking) → q.kept ≡ false → (is_union ps ≡ true → AreFull q.picks) → are_trees ps 1 ≡ true → AllTaken ps ws (q ∷ []) → rows_read ws ≡ picked q.picks (rows_read ps)
rows_picked [] ws q own full t a = absurd (let f : false ≡ true = t in cc)
rows_picked (p ∷ ps) [] q own full t a = absurd (omega (arith, a.len))
rows_picked (p ∷ ps) (w ∷ ws) q own full t a =
    let rest = trees_read ps ws (belows p q ++ []) (next_trees (belows p q) [] p.children ps (belows_len p q) t) (behind p w ps ws q [] a) in
    let first = first_read p w ps ws q [] a rest in
    exact (tags p.format) q.picks (rows_read (p ∷ ps)) (rows_read (w ∷ ws)) (own_column q.kept (tags p.format) q (rows_read (p ∷ ps)) (rows_read (w ∷ ws)) own first.first) full
