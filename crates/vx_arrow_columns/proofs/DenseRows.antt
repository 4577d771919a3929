-- Rows of dense unions.
use Rattle.std.proofs.Common.{suc, ◌≡◌, ℕ, ◌+◌, ◌-◌, ◌*◌, ◌^◌, ◌<◌, ◌≤◌, Bool, true, false, cond, List, [], ◌∷◌, ◌++◌, length, get_or, take, drop, map, Option, Some, None, ap, ap₂, sym, ◌∙◌, refl, subst, arith, eqb, append_assoc, length-append}
use Rattle.std.specs.Prelude.{◌||◌}
use Rattle.std.specs.List.{list_any, range_with_len}
use Rattle.std.proofs.lemmas.Bool.{and_from, eq-eqb, le-leb, lt-ltb, ltb-true}
use Rattle.std.proofs.lemmas.List.{append-nil, drop_more, get_or-append_right, get_or-map, get_or-take, length-take-le, take-append-drop, take_more}
use Rattle.std.proofs.lemmas.List.FromFn.{get_or-map-range_with_len, length-map-range_with_len}
use Rattle.vx_arrow_image.specs.declared.format.Format.{Format}
use Rattle.vx_arrow_image.specs.declared.format.Format.TheVariants.{DenseUnion}
use Rattle.vx_arrow_image.specs.declared.format.Offsets.TheVariants.{Short}
use Rattle.vx_arrow_image.specs.Rows.{RowValue, null, tagged}
use Rattle.vx_arrow_image.specs.Image.{Part, child_of, dense_start, has_child, ids_of, is_dense, is_valid, offset_at, row_of, value_at}
use Rattle.vx_arrow_image.proofs.CutRows.{range_all}
use Rattle.vx_arrow_image.proofs.DenseTests.{dense_is, dense_test}
use Rattle.vx_arrow_image.proofs.SoundNodes.{get_column, has_ids, ids_held, length_column, sound_from}
use Rattle.vx_arrow_columns.specs.Picks.{Picking, dense_child, dense_item, dense_picking, dense_row, dense_rows, has_bits, inners, inners_by, place_of, shows_by, shows_valid, tags}
use Rattle.vx_arrow_columns.specs.Taken.{AreDense, AreTagged, IsOwnTaken, IsReadable, id_at}
use Rattle.vx_arrow_columns.specs.Written.{new_part}
use Rattle.vx_arrow_columns.proofs.Columns.{placed}
use Rattle.vx_arrow_columns.proofs.OwnTaken.{counts, few_picks, held_by}
use Rattle.vx_arrow_columns.proofs.RowsAt.{column_within}
use Rattle.vx_arrow_columns.proofs.UnionRows.{bare_place, child_there, no_bits}

-- ---- the rows of one child

rows_append : (p : Part) (a b : List (Option ℕ)) (j : ℕ) → dense_rows p (a ++ b) j ≡ dense_rows p a j ++ dense_rows p b j
unfolding dense_rows
rows_append p [] b j = refl
rows_append p (o ∷ a) b j =
    ap (λ l. dense_row p j o ++ l) (rows_append p a b j) ∙ sym (append_assoc (dense_row p j o) (dense_rows p a j) (dense_rows p b j))

rows_cons : (p : Part) (o : Option ℕ) (b : List (Option ℕ)) (j : ℕ) → dense_rows p (o ∷ b) j ≡ dense_row p j o ++ dense_rows p b j
unfolding dense_rows
rows_cons p o b j = refl

pub rows_none : (p : Part) (q : List (Option ℕ)) (j : ℕ) → dense_rows p (take 0 q) j ≡ []
unfolding dense_rows
rows_none p q j = refl

-- those up to pick k, its own, and those behind
rows_split : (p : Part) (q : List (Option ℕ)) (j k : ℕ) → k < length q → dense_rows p q j ≡ dense_rows p (take k q) j ++ (dense_row p j (get_or q k None) ++ dense_rows p (drop (k + 1) q) j)
rows_split p q j k h =
    let whole : take k q ++ (get_or q k None ∷ drop (k + 1) q) ≡ q = ap (λ l. take k q ++ l) (sym (drop_more q k None h)) ∙ take-append-drop k q in
    sym (ap (λ l. dense_rows p l j) whole) ∙ rows_append p (take k q) (get_or q k None ∷ drop (k + 1) q) j ∙ ap (λ l. dense_rows p (take k q) j ++ l) (rows_cons p (get_or q k None) (drop (k + 1) q) j)

pub rows_more : (p : Part) (q : List (Option ℕ)) (j k : ℕ) → k < length q → dense_rows p (take (k + 1) q) j ≡ dense_rows p (take k q) j ++ dense_row p j (get_or q k None)
unfolding dense_rows
rows_more p q j k h =
    ap (λ l. dense_rows p l j) (take_more q k None h) ∙ rows_append p (take k q) (get_or q k None ∷ []) j
    ∙ ap (λ l. dense_rows p (take k q) j ++ l) (rows_cons p (get_or q k None) [] j ∙ append-nil (dense_row p j (get_or q k None)))

pub row_own : (p : Part) (j : ℕ) (o : Option ℕ) → dense_child p o ≡ j → dense_row p j o ≡ dense_item p o ∷ []
row_own p j o e = ap (λ b. cond b (dense_item p o ∷ []) []) (eq-eqb _ _ e)

pub row_other : (p : Part) (j : ℕ) (o : Option ℕ) → eqb (dense_child p o) j ≡ false → dense_row p j o ≡ []
row_other p j o e = ap (λ b. cond b (dense_item p o ∷ []) []) e

-- the row of a pick stands among those of its child where so many stand before it
pub own_at : (p : Part) (q : List (Option ℕ)) (k n : ℕ) → k < length q → n ≡ length (dense_rows p (take k q) (dense_child p (get_or q k None)))
    → (n < length (dense_rows p q (dense_child p (get_or q k None)))) × (get_or (dense_rows p q (dense_child p (get_or q k None))) n None ≡ dense_item p (get_or q k None))
own_at p q k n h e =
    let o = get_or q k None in
    let j = dense_child p o in
    let front = dense_rows p (take k q) j in
    let back = dense_rows p (drop (k + 1) q) j in
    let whole : dense_rows p q j ≡ front ++ (dense_item p o ∷ back) = rows_split p q j k h ∙ ap (λ l. front ++ (l ++ back)) (row_own p j o refl) in (
      omega (arith, ap length whole, length-append front (dense_item p o ∷ back)),
      ap (λ l. get_or l n None) whole ∙ get_or-append_right front (dense_item p o ∷ back) (length front) n None refl (omega arith)
          ∙ ap (λ m. get_or (dense_item p o ∷ back) m None) (let z : n - length front ≡ 0 = omega arith in z),
    )

row_short : (p : Part) (j : ℕ) (o : Option ℕ) → length (dense_row p j o) ≤ 1
row_short p j o = go (eqb (dense_child p o) j)
  where
    go : (b : Bool) → length (cond b (dense_item p o ∷ []) []) ≤ 1
    go true = omega arith
    go false = omega arith

-- no more than picks
pub rows_few : (p : Part) (q : List (Option ℕ)) (j : ℕ) → length (dense_rows p q j) ≤ length q
rows_few p [] j = omega (arith, ap length (rows_none p [] j))
rows_few p (o ∷ q) j = omega (arith, ap length (rows_cons p o q j), length-append (dense_row p j o) (dense_rows p q j), row_short p j o, rows_few p q j)

-- ---- whose child's row a pick is

pub child_low : (ids : List ℕ) (id : ℕ) → list_any (λ x. eqb x id) ids ≡ true → child_of ids id < length ids
child_low [] id h = absurd (let f : false ≡ true = h in cc)
child_low (x ∷ ids) id h = go (eqb x id) refl (child_low ids id)
  where
    go : (b : Bool) → eqb x id ≡ b → (list_any (λ y. eqb y id) ids ≡ true → child_of ids id < length ids) → cond b 0 (child_of ids id + 1) < suc (length ids)
    go true e rest = omega arith
    go false e rest = let low = rest (sym (ap (λ b. b || list_any (λ y. eqb y id) ids) e) ∙ h) in omega arith

first_child : (ids : List ℕ) → 0 < length ids → child_of ids (get_or ids 0 0) ≡ 0
first_child [] h = absurd (omega arith)
first_child (x ∷ ids) h = ap (λ b. cond b 0 (child_of ids x + 1)) (eq-eqb x x refl)

-- the id that is written for a pick is that of its child
pub id_child : (p : Part) (o : Option ℕ) → 0 < p.children → p.children ≤ length p.sizes → child_of (ids_of p) (id_at p o) ≡ dense_child p o
id_child p None some ids =
    let n = p.children in
    ap (child_of (ids_of p)) (sym (get_or-take n p.sizes 0 0 some)) ∙ first_child (ids_of p) (omega (arith, length-take-le n p.sizes ids))
id_child p (Some i) some ids = refl

pub child_known : (p : Part) (q : List (Option ℕ)) (k : ℕ) (o : Option ℕ) → 0 < p.children → p.children ≤ length p.sizes → ((i : ℕ) → o ≡ Some i → has_child p (p.offset + i) ≡ true) → dense_child p o < p.children
child_known p q k None some ids h = some
child_known p q k (Some i) some ids h = let low = child_low (ids_of p) (get_or p.values (p.offset + i) 0) (child_there p (p.offset + i) (h i refl)) in omega (arith, length-take-le p.children p.sizes ids)

-- ---- the rows written

bare_dense : (p : Part) (cs : List (List RowValue)) (i : ℕ) → p.format ≡ Some DenseUnion → length p.valid ≡ 0 → row_of p cs i ≡ value_at (Some DenseUnion) p cs i
bare_dense p cs i format e = ap (λ (v : List ℕ). cond (is_valid v i) (value_at p.format p cs i) null) (no_bits p.valid e) ∙ ap (λ (f : Option Format). value_at f p cs i) format

pub dense_taken : (p : Part) (q : Picking) (o x s : List ℕ) → p.format ≡ Some DenseUnion → IsReadable p q.picks → length q.picks ≤ length x → p.children ≤ length s → 4 * length q.picks ≤ length o → AreTagged p q.picks (length q.picks) x → take p.children s ≡ ids_of p → AreDense p q.picks (length q.picks) o
    → IsOwnTaken p (new_part p q [] o x s) q
dense_taken p q o x s format r room_x room_s room_o are ids dense =
    let w = new_part p q [] o x s in
    let n = p.children in
    let held = held_by p q.picks (Some DenseUnion) format r in
    let has = has_ids p held.0 in
    let few : length q.picks < 2 ^ 31 = ltb-true _ _ (counts p q.picks (Some DenseUnion) format r.counted) in
    let is : inners p q ≡ map (dense_picking p q) (range_with_len 0 n) = ap (λ (f : Option Format). inners_by f p q) format in
    let lens = map (λ (i : Picking). length i.picks) (inners p q) in
    let known = λ (k : ℕ) (h : k < length q.picks). child_known p q.picks k (get_or q.picks k None) has.some has.ids (λ i e. held.2.all k (p.offset + i) h (ap (place_of p) e ∙ bare_place p i has.bare)) in
    let nth = λ (j : ℕ) (d : Picking) (h : j < n). ap (λ (l : List Picking). get_or l j d) is ∙ get_or-map-range_with_len (dense_picking p q) 0 n j j d h (let z : 0 + j ≡ j = omega arith in z) in
    record {
      children = refl;
      len = refl;
      sound = sound_from w lens (Some DenseUnion) format (placed w refl (few_picks p q.picks r.counted) refl)
          (and_from _ _ (ids_held w refl has.some room_s (let z : 0 + length q.picks ≤ length x = omega arith in z))
          (and_from _ _ (le-leb (4 * (0 + length q.picks)) (length o) (omega arith))
          (range_all (is_dense w lens) 0 (length q.picks) (λ k low high.
          let h : k < length q.picks = omega arith in
          let j = dense_child p (get_or q.picks k None) in
          let start = dense.starts k h in
          let own = own_at p q.picks k (offset_at Short o k) h start in
          let child : j ≡ child_of (ids_of w) (get_or x k 0) = sym (id_child p (get_or q.picks k None) has.some has.ids) ∙ sym (ap₂ child_of ids (are.ids k h)) in
          let size : get_or lens j 0 ≡ length (dense_rows p q.picks j) = get_or-map (λ (i : Picking). length i.picks) (inners p q) j (dense_picking p q 0) 0 (omega (arith, ap length is, length-map-range_with_len (dense_picking p q) 0 n, known k h)) ∙ ap (λ (i : Picking). length i.picks) (nth j (dense_picking p q 0) (known k h)) in
          let small : offset_at Short o k < 2 ^ 31 = omega (arith, rows_few p q.picks j, own.0) in
          let inside : offset_at Short o k < get_or lens j 0 = omega (arith, own.0) in
          let there : dense_test lens (offset_at Short o k) j ≡ true = and_from _ _ (lt-ltb _ _ small) (lt-ltb _ _ inside) in
          sym (dense_is w lens k (offset_at Short o k) j refl child) ∙ there))));
      column = λ cs ds at. record {
        len = length_column w ds;
        within = column_within p q.picks cs r.within;
        at = λ k i h e.
            let low = r.within.below k i h e in
            let j = dense_child p (get_or q.picks k None) in
            let start = dense.starts k h in
            let own = own_at p q.picks k (offset_at Short o k) h start in
            let child : child_of (ids_of w) (get_or x k 0) ≡ j = ap₂ child_of ids (are.ids k h) ∙ id_child p (get_or q.picks k None) has.some has.ids in
            let same : j ≡ child_of (ids_of p) (get_or p.values (p.offset + i) 0) = ap (dense_child p) e in
            let id : get_or x k 0 ≡ get_or p.values (p.offset + i) 0 = are.ids k h ∙ ap (id_at p) e in
            let own_picks : (get_or (inners p q) j (dense_picking p q 0)).picks ≡ dense_rows p q.picks j = ap (λ (y : Picking). y.picks) (nth j (dense_picking p q 0) (known k h)) in
            let pick : get_or (get_or (inners p q) j (dense_picking p q 0)).picks (offset_at Short o k) None ≡ Some (dense_start p (p.offset + i)) = ap (λ (l : List (Option ℕ)). get_or l (offset_at Short o k) None) own_picks ∙ own.1 ∙ ap (dense_item p) e in
            let rows = at.at j (dense_picking p q 0) (omega (arith, ap length is, length-map-range_with_len (dense_picking p q) 0 n, known k h)) in
            get_column w ds k h ∙ ap (row_of w ds) (let z : 0 + k ≡ k = omega arith in z) ∙ bare_dense w ds k format refl
            ∙ ap₂ (λ (m : ℕ) (c : ℕ). tagged m (get_or (get_or ds c []) (offset_at Short o k) null)) id child
            ∙ ap (tagged (get_or p.values (p.offset + i) 0)) (rows.at (offset_at Short o k) (dense_start p (p.offset + i)) (omega (arith, ap length own_picks, own.0)) pick ∙ ap (λ (c : ℕ). get_or (get_or cs c []) (dense_start p (p.offset + i)) null) same)
            ∙ sym (get_column p cs i low ∙ bare_dense p cs (p.offset + i) format has.bare);
        nulls = λ loose. absurd (let g : true ≡ false = sym (ap tags format) ∙ loose in cc);
      };
    }

-- the same with whatever bits there are, since none are looked at
pub dense_node : (p : Part) (q : Picking) (v o x s : List ℕ) → p.format ≡ Some DenseUnion → IsReadable p q.picks → length q.picks ≤ length x → p.children ≤ length s → 4 * length q.picks ≤ length o → AreTagged p q.picks (length q.picks) x → take p.children s ≡ ids_of p → AreDense p q.picks (length q.picks) o
    → IsOwnTaken p (new_part p q (cond (shows_valid p q) v []) o x s) q
dense_node p q v o x s format r room_x room_s room_o are ids dense =
    let none : cond (shows_valid p q) v [] ≡ [] = ap (λ (f : Option Format). cond (shows_by f (has_bits p.valid || q.nullable)) v []) format in
    subst (λ (w : List ℕ). IsOwnTaken p (new_part p q w o x s) q) (sym none) (dense_taken p q o x s format r room_x room_s room_o are ids dense)
