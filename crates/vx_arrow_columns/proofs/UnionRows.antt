-- Rows of unions.
use Rattle.std.proofs.Common.{◌≡◌, ℕ, ◌+◌, ◌<◌, ◌≤◌, true, false, cond, List, [], ◌∷◌, length, get_or, take, map, Option, Some, None, ap, ap₂, sym, ◌∙◌, refl, subst, arith, eqb, inl, inr, set, get_or-set_same, get_or-set_other}
use Rattle.std.specs.Prelude.{◌||◌}
use Rattle.std.specs.List.{list_any}
use Rattle.std.specs.Option.{option_map}
use Rattle.std.proofs.lemmas.Bool.{and_from, cases_eq, cases_lt, eq-eqb}
use Rattle.std.proofs.lemmas.List.{get_or-map, get_or_past, get_or-take, length-map, length-take-le}
use Rattle.std.proofs.lemmas.List.Folds.{list_any_at}
use Rattle.vx_arrow_image.specs.declared.format.Format.{Format}
use Rattle.vx_arrow_image.specs.declared.format.Format.TheVariants.{Union}
use Rattle.vx_arrow_image.specs.Rows.{RowValue, null, tagged}
use Rattle.vx_arrow_image.specs.Image.{Part, child_of, has_child, ids_of, is_valid, row_of, value_at}
use Rattle.vx_arrow_image.proofs.CutRows.{range_all}
use Rattle.vx_arrow_image.proofs.SoundNodes.{get_column, has_ids, ids_held, length_column, sound_from}
use Rattle.vx_arrow_columns.specs.Picks.{Picking, inners_by, inner, inner_picks, place_of, tags, has_bits, shows_by, shows_valid}
use Rattle.vx_arrow_columns.specs.Taken.{AreTagged, IsOwnTaken, IsReadable, id_at}
use Rattle.vx_arrow_columns.specs.Written.{new_part}
use Rattle.vx_arrow_columns.proofs.Columns.{placed}
use Rattle.vx_arrow_columns.proofs.RowsAt.{AreSameAt, column_within}
use Rattle.vx_arrow_columns.proofs.OwnTaken.{few_picks, held_by, long_all, own_taken}

pub no_bits : (v : List ℕ) → length v ≡ 0 → v ≡ []
no_bits [] e = refl
no_bits (b ∷ bs) e = absurd (omega arith)

-- without a validity each row is there
pub bare_place : (p : Part) (i : ℕ) → length p.valid ≡ 0 → place_of p (Some i) ≡ Some (p.offset + i)
bare_place p i e = ap (λ (v : List ℕ). cond (is_valid v (p.offset + i)) (Some (p.offset + i)) None) (no_bits p.valid e)

bare_row : (p : Part) (cs : List (List RowValue)) (i : ℕ) → p.format ≡ Some Union → length p.valid ≡ 0 → row_of p cs i ≡ value_at (Some Union) p cs i
bare_row p cs i format e = ap (λ (v : List ℕ). cond (is_valid v i) (value_at p.format p cs i) null) (no_bits p.valid e) ∙ ap (λ (f : Option Format). value_at f p cs i) format

-- the id of some child
first_id : (p : Part) → 0 < p.children → p.children ≤ length p.sizes → list_any (λ x. eqb x (get_or p.sizes 0 0)) (ids_of p) ≡ true
first_id p some ids =
    let n = p.children in
    list_any_at (λ x. eqb x (get_or p.sizes 0 0)) (take n p.sizes) 0 0 (omega (arith, length-take-le n p.sizes ids)) (eq-eqb _ _ (get_or-take n p.sizes 0 0 some))

pub child_there : (p : Part) (i : ℕ) → has_child p i ≡ true → list_any (λ x. eqb x (get_or p.values i 0)) (ids_of p) ≡ true
unfolding has_child
child_there p i h = h

child_here : (w : Part) (k id : ℕ) (ids : List ℕ) → get_or w.values k 0 ≡ id → ids_of w ≡ ids → list_any (λ x. eqb x id) ids ≡ true → has_child w k ≡ true
unfolding has_child
child_here w k id ids e f h = ap₂ (λ (a : ℕ) (l : List ℕ). list_any (λ x. eqb x a) l) e f ∙ h

id_known : (p : Part) (q : List (Option ℕ)) (k : ℕ) (o : Option ℕ) → 0 < p.children → p.children ≤ length p.sizes → length p.valid ≡ 0 → ((i : ℕ) → place_of p o ≡ Some i → has_child p i ≡ true) → list_any (λ x. eqb x (id_at p o)) (ids_of p) ≡ true
id_known p q k None some ids bare h = first_id p some ids
id_known p q k (Some i) some ids bare h = child_there p (p.offset + i) (h (p.offset + i) (bare_place p i bare))

-- a child's row at a pick, or that of no child
child_row : (q : List (Option ℕ)) (n j k i : ℕ) (cs ds : List (List RowValue)) → AreSameAt q n cs ds → k < length q → get_or q k None ≡ Some i → get_or (get_or ds j []) k null ≡ get_or (get_or cs j []) i null
child_row q n j k i cs ds a h e =
    let old = a.old_len in
    let new = a.new_len in
    elim (cases_lt j n) as (λ _. get_or (get_or ds j []) k null ≡ get_or (get_or cs j []) i null) [
      | inl low ↦ let own = a.at j low in own.at k i h e
      | inr high ↦ ap (λ (l : List RowValue). get_or l k null) (get_or_past ds j [] (omega arith)) ∙ sym (ap (λ (l : List RowValue). get_or l i null) (get_or_past cs j [] (omega arith)))
    ]

pub union_taken : (p : Part) (q : Picking) (o x s : List ℕ) → p.format ≡ Some Union → IsReadable p q.picks → length q.picks ≤ length x → p.children ≤ length s → AreTagged p q.picks (length q.picks) x → take p.children s ≡ ids_of p
    → IsOwnTaken p (new_part p q [] o x s) q
union_taken p q o x s format r room_x room_s are ids =
    let w = new_part p q [] o x s in
    let held = held_by p q.picks (Some Union) format r in
    let has = has_ids p held.0 in
    let f = option_map (λ (i : ℕ). p.offset + i) in
    let is : (inner p q).picks ≡ map f q.picks = ap (λ (y : Option Format). inner_picks y p q.picks) format in
    let count : length (inner p q).picks ≡ length q.picks = ap length is ∙ length-map q.picks f in
    own_taken p w q (ap (λ (y : Option Format). inners_by y p q) format) (record {
      children = refl;
      len = refl;
      sound = sound_from w _ (Some Union) format (placed w refl (few_picks p q.picks r.counted) refl)
          (and_from _ _ (ids_held w refl has.some room_s (omega arith))
          (and_from _ _ (long_all (0 + length q.picks) (length (inner p q).picks) p.children (omega arith))
          (range_all (has_child w) 0 (length q.picks) (λ k low high.
          let at : k < length q.picks = omega arith in
          child_here w k (id_at p (get_or q.picks k None)) (ids_of p) (are.ids k at) ids
          (id_known p q.picks k (get_or q.picks k None) has.some has.ids has.bare (λ i e. held.1.all k i at e))))));
      column = λ cs ds at. record {
        len = length_column w ds;
        within = column_within p q.picks cs r.within;
        at = λ k i h e.
            let low = r.within.below k i h e in
            let pick : get_or (inner p q).picks k None ≡ Some (p.offset + i) = ap (λ (l : List (Option ℕ)). get_or l k None) is ∙ get_or-map f q.picks k None None h ∙ ap f e in
            let id : get_or x k 0 ≡ get_or p.values (p.offset + i) 0 = are.ids k h ∙ ap (id_at p) e in
            get_column w ds k h ∙ ap (row_of w ds) (let z : 0 + k ≡ k = omega arith in z) ∙ bare_row w ds k format refl
            ∙ ap₂ (λ (n : ℕ) (l : List ℕ). tagged n (get_or (get_or ds (child_of l n) []) k null)) id ids
            ∙ ap (tagged (get_or p.values (p.offset + i) 0)) (child_row (inner p q).picks p.children (child_of (ids_of p) (get_or p.values (p.offset + i) 0)) k (p.offset + i) cs ds at (omega arith) pick)
            ∙ sym (get_column p cs i low ∙ bare_row p cs (p.offset + i) format has.bare);
        nulls = λ loose. absurd (let g : true ≡ false = sym (ap tags format) ∙ loose in cc);
      };
    })

-- the same with whatever bits there are, since none are looked at
pub union_node : (p : Part) (q : Picking) (v o x s : List ℕ) → p.format ≡ Some Union → IsReadable p q.picks → length q.picks ≤ length x → p.children ≤ length s → AreTagged p q.picks (length q.picks) x → take p.children s ≡ ids_of p
    → IsOwnTaken p (new_part p q (cond (shows_valid p q) v []) o x s) q
union_node p q v o x s format r room_x room_s are ids =
    let none : cond (shows_valid p q) v [] ≡ [] = ap (λ (f : Option Format). cond (shows_by f (has_bits p.valid || q.nullable)) v []) format in
    subst (λ (w : List ℕ). IsOwnTaken p (new_part p q w o x s) q) (sym none) (union_taken p q o x s format r room_x room_s are ids)

-- one id more
pub id_put : (p : Part) (q : List (Option ℕ)) (k id : ℕ) (out new : List ℕ) → id ≡ id_at p (get_or q k None) → k < length out → new ≡ set out k id → AreTagged p q k out → AreTagged p q (k + 1) new
id_put p q k id out new is room put a = record {
  ids = λ j h. ap (λ (l : List ℕ). get_or l j 0) put ∙ elim (cases_eq j k) as (λ _. get_or (set out k id) j 0 ≡ id_at p (get_or q j None)) [
    | inl same ↦ ap (λ (n : ℕ). get_or (set out k id) n 0) same ∙ get_or-set_same out k id 0 room ∙ is ∙ ap (λ (n : ℕ). id_at p (get_or q n None)) (sym same)
    | inr other ↦ get_or-set_other out k j id 0 other ∙ a.ids j (omega arith)
  ];
}
