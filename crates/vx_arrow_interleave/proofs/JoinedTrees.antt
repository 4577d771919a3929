-- The columns of tables whose nodes are each joined.
use Rattle.std.proofs.Common.{zero, suc, ◌≡◌, ℕ, ◌+◌, ◌<◌, ◌≤◌, List, [], ◌∷◌, ◌++◌, length, get_or, take, drop, map, Option, Some, None, ap, ap₂, sym, ◌∙◌, refl, subst, arith, length-append}
use Rattle.std.specs.Option.{option_and_then}
use Rattle.std.proofs.lemmas.List.{ext_get_or, get_or-drop, get_or-map, get_or-take, length-drop, length-map, length-take-le}
use Rattle.vx_arrow_image.specs.Rows.{RowValue, null}
use Rattle.vx_arrow_image.specs.Image.{Part, column_of, columns_in, is_sound, with_part}
use Rattle.vx_arrow_image.proofs.SoundNodes.{length_column, with_part_is}
use Rattle.vx_arrow_columns.proofs.Trees.{opened}
use Rattle.vx_arrow_interleave.specs.Given.{belows}
use Rattle.vx_arrow_interleave.specs.Joined.{AllJoined, AreChildren, IsJoined, table_of}
use Rattle.vx_arrow_interleave.specs.Sources.{part_at}
use Rattle.vx_arrow_interleave.specs.Spots.{Spot, gathered, row_at_spot, spot, spot_at}

pub length_gathered : (ss : List Spot) (f : ℕ → List RowValue) → length (gathered ss f) ≡ length ss
length_gathered ss f = length-map ss (row_at_spot f)

pub get_gathered : (ss : List Spot) (f : ℕ → List RowValue) (k : ℕ) → k < length ss → get_or (gathered ss f) k null ≡ row_at_spot f (spot_at ss k)
get_gathered ss f k h = get_or-map (row_at_spot f) ss k (spot 0 0) null h

-- only the columns of the sources count
pub gathered_same : (m : ℕ) (ss : List Spot) (f g : ℕ → List RowValue) → ((k : ℕ) → k < length ss → (spot_at ss k).source < m) → ((s : ℕ) → s < m → f s ≡ g s) → gathered ss f ≡ gathered ss g
gathered_same m ss f g low same = ext_get_or null (gathered ss f) (gathered ss g) (length_gathered ss f ∙ sym (length_gathered ss g)) (λ k h.
    let here : k < length ss = omega (arith, length_gathered ss f) in
    let s = spot_at ss k in
    get_gathered ss f k here ∙ ap (λ (l : List RowValue). get_or l s.row null) (same s.source (low k here)) ∙ sym (get_gathered ss g k here))

-- the columns of a table that may have none
abbrev got : Option (List (List RowValue)) → List (List RowValue)
got None = []
got (Some cs) = cs

front : {X : Type 0} (xs ys : List X) (j : ℕ) (d : X) → j < length xs → get_or (xs ++ ys) j d ≡ get_or xs j d
front [] ys j d h = absurd (omega arith)
front (x ∷ xs) ys zero d h = refl
front (x ∷ xs) ys (suc j) d h = front xs ys j d (omega arith)

back : {X : Type 0} (xs ys : List X) (n j : ℕ) (d : X) → length xs ≡ n → get_or (xs ++ ys) (n + j) d ≡ get_or ys j d
back [] ys n j d e = ap (λ m. get_or ys m d) (let f : n + j ≡ j = omega arith in f)
back (x ∷ xs) ys zero j d e = absurd (omega arith)
back (x ∷ xs) ys (suc n) j d e = ap (λ m. get_or (x ∷ (xs ++ ys)) m d) (let f : suc n + j ≡ suc (n + j) = omega arith in f) ∙ back xs ys n j d (omega arith)

-- the children among the trees behind a node
children_at : (m n : ℕ) (bs st : List (List Spot)) (css : ℕ → List (List RowValue)) (ds : List (List RowValue)) → length bs ≡ n → AreChildren m (bs ++ st) css ds
    → AreChildren m bs (λ s. take n (css s)) (take n ds)
children_at m n bs st css ds e a =
    let many = length-append bs st in
    record {
      old_len = λ s h. length-take-le n (css s) (omega (arith, many, a.old_len s h)) ∙ sym e;
      new_len = length-take-le n ds (omega (arith, many, a.new_len)) ∙ sym e;
      source = λ j k h i.
          let same = front bs st j [] h in
          subst (λ (l : List Spot). (spot_at l k).source < m) same (a.source j k (omega arith) (subst (λ (l : List Spot). k < length l) (sym same) i));
      within = λ j k h i.
          let same = front bs st j [] h in
          let s = (spot_at (get_or bs j []) k).source in
          subst (λ (l : List RowValue). (spot_at (get_or bs j []) k).row < length l) (sym (get_or-take n (css s) j [] (omega arith)))
          (subst (λ (l : List Spot). (spot_at l k).row < length (get_or (css (spot_at l k).source) j [])) same (a.within j k (omega arith) (subst (λ (l : List Spot). k < length l) (sym same) i)));
      at = λ j h.
          let same = front bs st j [] h in
          get_or-take n ds j [] (omega arith)
          ∙ a.at j (omega arith)
          ∙ ap (λ (l : List Spot). gathered l (λ s. get_or (css s) j [])) same
          ∙ gathered_same m (get_or bs j []) (λ s. get_or (css s) j []) (λ s. get_or (take n (css s)) j [])
          (λ k i. subst (λ (l : List Spot). (spot_at l k).source < m) same (a.source j k (omega arith) (subst (λ (l : List Spot). k < length l) (sym same) i)))
          (λ s i. sym (get_or-take n (css s) j [] (omega arith)));
    }

-- a node's rows, and the trees behind it without its children
record Parent (m : ℕ) (ss : List Spot) (st : List (List Spot)) (n : ℕ) (css own : ℕ → List (List RowValue)) (ds : List (List RowValue)) (new : List RowValue) : Type 0 where
  old : (s : ℕ) → s < m → own s ≡ get_or (own s) 0 [] ∷ drop n (css s)
  source : (k : ℕ) → k < length ss → (spot_at ss k).source < m
  within : (k : ℕ) → k < length ss → (spot_at ss k).row < length (get_or (own (spot_at ss k).source) 0 [])
  rows : new ≡ gathered ss (λ s. get_or (own s) 0 [])

parent_at : (m n : ℕ) (bs st : List (List Spot)) (ss : List Spot) (css own : ℕ → List (List RowValue)) (ds : List (List RowValue)) (new : List RowValue) → length bs ≡ n → AreChildren m (bs ++ st) css ds
    → Parent m ss st n css own ds new → AreChildren m (ss ∷ st) own (new ∷ drop n ds)
parent_at m n bs st ss css own ds new e a p =
    let many = length-append bs st in
    let later : (j : ℕ) → get_or (bs ++ st) (n + j) [] ≡ get_or st j [] = λ j. back bs st n j [] e in
    record {
      old_len = λ s h. ap length (p.old s h) ∙ omega (arith, many, a.old_len s h, length-drop n (css s));
      new_len = omega (arith, many, a.new_len, length-drop n ds);
      source = λ j k h i. source_at j k h i;
      within = λ j k h i. within_at j k h i;
      at = λ j h. rows_at j h;
    }
  where
    later : (j : ℕ) → get_or (bs ++ st) (n + j) [] ≡ get_or st j []
    later j = back bs st n j [] e

    far : (j : ℕ) → suc j < length (ss ∷ st) → n + j < length (bs ++ st)
    far j h = omega (arith, length-append bs st)

    source_at : (j k : ℕ) → j < length (ss ∷ st) → k < length (get_or (ss ∷ st) j []) → (spot_at (get_or (ss ∷ st) j []) k).source < m
    source_at zero k h i = p.source k i
    source_at (suc j) k h i = subst (λ (l : List Spot). (spot_at l k).source < m) (later j) (a.source (n + j) k (far j h) (subst (λ (l : List Spot). k < length l) (sym (later j)) i))

    own_at : (s j : ℕ) → s < m → get_or (own s) (suc j) [] ≡ get_or (css s) (n + j) []
    own_at s j h = ap (λ (l : List (List RowValue)). get_or l (suc j) []) (p.old s h) ∙ get_or-drop n (css s) j []

    within_at : (j k : ℕ) → j < length (ss ∷ st) → k < length (get_or (ss ∷ st) j []) → (spot_at (get_or (ss ∷ st) j []) k).row < length (get_or (own (spot_at (get_or (ss ∷ st) j []) k).source) j [])
    within_at zero k h i = p.within k i
    within_at (suc j) k h i =
        let s = (spot_at (get_or st j []) k).source in
        subst (λ (l : List RowValue). (spot_at (get_or st j []) k).row < length l) (sym (own_at s j (source_at (suc j) k h i)))
        (subst (λ (l : List Spot). (spot_at l k).row < length (get_or (css (spot_at l k).source) (n + j) [])) (later j) (a.within (n + j) k (far j h) (subst (λ (l : List Spot). k < length l) (sym (later j)) i)))

    rows_at : (j : ℕ) → j < length (ss ∷ st) → get_or (new ∷ drop n ds) j [] ≡ gathered (get_or (ss ∷ st) j []) (λ s. get_or (own s) j [])
    rows_at zero h = p.rows
    rows_at (suc j) h =
        get_or-drop n ds j []
        ∙ a.at (n + j) (far j h)
        ∙ ap (λ (l : List Spot). gathered l (λ s. get_or (css s) (n + j) [])) (later j)
        ∙ gathered_same m (get_or st j []) (λ s. get_or (css s) (n + j) []) (λ s. get_or (own s) (suc j) [])
        (λ k i. source_at (suc j) k h i) (λ s i. sym (own_at s j i))

-- ---- the trees

-- the columns that a table means, beside those of m sources
pub record Columns (m : ℕ) (st : List (List Spot)) (ws : List Part) (css : ℕ → List (List RowValue)) : Type 0 where
  pub columns : List (List RowValue)
  pub are : columns_in ws ≡ Some columns
  pub children : AreChildren m st css columns

some_columns : (a b : List (List RowValue)) → Some a ≡ Some b → a ≡ b
some_columns a b e = cc

no_trees : (m : ℕ) (st : List (List Spot)) (ws : List Part) (css : ℕ → List (List RowValue)) → st ≡ [] → ws ≡ [] → ((s : ℕ) → s < m → Some [] ≡ Some (css s)) → Columns m st ws css
no_trees m st ws css e f means = record {
  columns = [];
  are = ap columns_in f;
  children = subst (λ (l : List (List Spot)). AreChildren m l css []) (sym e) (record {
    old_len = λ s h. ap length (sym (some_columns [] (css s) (means s h)));
    new_len = refl;
    source = λ j k h i. absurd (omega arith);
    within = λ j k h i. absurd (omega arith);
    at = λ j h. absurd (omega arith);
  });
}

lens_children : (m : ℕ) (bs : List (List Spot)) (css : ℕ → List (List RowValue)) (ds : List (List RowValue)) → AreChildren m bs css ds → map length ds ≡ map length bs
lens_children m bs css ds a = ext_get_or 0 (map length ds) (map length bs) (length-map ds length ∙ a.new_len ∙ sym (length-map bs length)) (λ j h.
    let low : j < length ds = omega (arith, length-map ds length) in
    let there : j < length bs = omega (arith, a.new_len) in
    get_or-map length ds j [] 0 low ∙ ap length (a.at j there) ∙ length_gathered (get_or bs j []) (λ s. get_or (css s) j []) ∙ sym (get_or-map length bs j [] 0 there))

-- what a source's node has before its table
record Head (p : Part) (n : ℕ) (tail own : List (List RowValue)) : Type 0 where
  is : own ≡ column_of p (take n tail) ∷ drop n tail

head_of : (p : Part) (ps : List Part) (n : ℕ) (own : List (List RowValue)) → p.children ≡ n → columns_in (p ∷ ps) ≡ Some own → (columns_in ps ≡ Some (got (columns_in ps))) × (Head p n (got (columns_in ps)) own)
head_of p ps n own e means =
    let op = opened p ps own means in
    let same : op.columns ≡ got (columns_in ps) = sym (ap got op.rest) in (
      op.rest ∙ ap Some same,
      record { is = op.joined.whole ∙ ap₂ (λ (k : ℕ) (l : List (List RowValue)). column_of p (take k l) ∷ drop k l) e same },
    )

first_is : (p : Part) (n : ℕ) (tail own : List (List RowValue)) → Head p n tail own → get_or own 0 [] ≡ column_of p (take n tail)
first_is p n tail own h = ap (λ (l : List (List RowValue)). get_or l 0 []) h.is

whole_is : (p : Part) (n : ℕ) (tail own : List (List RowValue)) → Head p n tail own → own ≡ get_or own 0 [] ∷ drop n tail
whole_is p n tail own h = h.is ∙ ap (λ (l : List RowValue). l ∷ drop n tail) (sym (first_is p n tail own h))

-- a node before trees
node_columns : (m n : ℕ) (ps : List Part) (ss : List Spot) (st : List (List Spot)) (w : Part) (ws : List Part) (tail own : ℕ → List (List RowValue)) → length (belows ps ss) ≡ n → length ps ≡ m → IsJoined ps ss w
    → ((s : ℕ) → s < m → Head (part_at ps s) n (tail s) (own s)) → Columns m (belows ps ss ++ st) ws tail → Columns m (ss ∷ st) (w ∷ ws) own
node_columns m n ps ss st w ws tail own size many node heads c =
    let bs = belows ps ss in
    let ds = take n c.columns in
    let kids = children_at m n bs st tail c.columns size c.children in
    let lens : map length ds ≡ map length bs = lens_children m bs (λ s. take n (tail s)) ds kids in
    let count : w.children ≡ n = node.children ∙ size in
    let new = column_of w ds in
    let sources : (k : ℕ) → k < length ss → (spot_at ss k).source < m = λ k h. omega (arith, node.rows.source k h) in
    let rows : new ≡ gathered ss (λ s. get_or (own s) 0 []) =
    node.column (λ s. take n (tail s)) ds (subst (λ (k : ℕ). AreChildren k bs (λ s. take n (tail s)) ds) (sym many) kids)
    ∙ gathered_same m ss (λ s. column_of (part_at ps s) (take n (tail s))) (λ s. get_or (own s) 0 []) sources (λ s h. sym (first_is (part_at ps s) n (tail s) (own s) (heads s h))) in
    let long : n ≤ length c.columns = omega (arith, c.children.new_len, length-append bs st) in
    record {
      columns = new ∷ drop n c.columns;
      are = ap (option_and_then (with_part w)) c.are
          ∙ with_part_is w c.columns (omega arith) (ap (λ (k : ℕ). is_sound w (map length (take k c.columns))) count ∙ ap (is_sound w) lens ∙ node.sound)
          ∙ ap (λ (k : ℕ). Some (column_of w (take k c.columns) ∷ drop k c.columns)) count;
      children = parent_at m n bs st ss tail own c.columns new size c.children (record {
        old = λ s h. whole_is (part_at ps s) n (tail s) (own s) (heads s h);
        source = sources;
        within = λ k h.
            let s = spot_at ss k in
            let low = node.rows.row k h in
            let long = ap length (first_is (part_at ps s.source) n (tail s.source) (own s.source) (heads s.source (sources k h))) ∙ length_column (part_at ps s.source) (take n (tail s.source)) in
            omega (arith, low, long);
        rows = rows;
      });
    }

pub joined_trees : (m : ℕ) (gs : List (List Part)) (st : List (List Spot)) (ws : List Part) (css : ℕ → List (List RowValue)) → AllJoined m gs st ws → ((s : ℕ) → s < m → columns_in (table_of s gs) ≡ Some (css s)) → Columns m st ws css
joined_trees m [] st ws css all means = no_trees m st ws css all.0 all.1 means
joined_trees m (ps ∷ gs) [] ws css all means = absurd all
joined_trees m (ps ∷ gs) (ss ∷ st) [] css all means = absurd all
joined_trees m (ps ∷ gs) (ss ∷ st) (w ∷ ws) css all means =
    let n = length (belows ps ss) in
    let node = all.1.0 in
    let tail = λ (s : ℕ). got (columns_in (table_of s gs)) in
    let heads : (s : ℕ) → s < m → (columns_in (table_of s gs) ≡ Some (tail s)) × (Head (part_at ps s) n (tail s) (css s)) =
    λ s h. head_of (part_at ps s) (table_of s gs) n (css s) (node.alike s (omega (arith, all.0))) (means s h) in
    let rest = joined_trees m gs (belows ps ss ++ st) ws tail all.1.1 (λ s h. (heads s h).0) in
    node_columns m n ps ss st w ws tail css refl all.0 node (λ s h. (heads s h).1) rest
