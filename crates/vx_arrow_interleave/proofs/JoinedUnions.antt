-- Unions among joined rows.
use Rattle.std.proofs.Common.{◌≡◌, ℕ, ◌+◌, ◌*◌, ◌<◌, ◌≤◌, true, false, cond, List, [], length, get_or, take, drop, Option, Some, ap, ap₂, sym, ◌∙◌, refl, subst, arith, eqb, inl, inr}
use Rattle.std.specs.List.{list_any}
use Rattle.std.proofs.lemmas.Bool.{and_from, cases_lt}
use Rattle.std.proofs.lemmas.List.{get_or-drop, get_or-take, get_or_past}
use Rattle.vx_arrow_image.specs.declared.format.Format.{Format}
use Rattle.vx_arrow_image.specs.declared.format.Format.TheVariants.{Union}
use Rattle.vx_arrow_image.specs.Rows.{RowValue, null, tagged}
use Rattle.vx_arrow_image.specs.Image.{Part, child_of, has_child, ids_of, is_valid, row_of, value_at}
use Rattle.vx_arrow_image.proofs.CutRows.{range_all}
use Rattle.vx_arrow_image.proofs.SoundNodes.{has_ids, ids_held}
use Rattle.vx_arrow_columns.specs.Picks.{has_bits, shows_by}
use Rattle.vx_arrow_columns.proofs.OwnTaken.{long_all}
use Rattle.vx_arrow_columns.proofs.UnionRows.{child_there, no_bits}
use Rattle.vx_arrow_interleave.specs.Bytes.{HoldRecords, records}
use Rattle.vx_arrow_interleave.specs.Given.{below, belows, places}
use Rattle.vx_arrow_interleave.specs.Joined.{AreChildren, IsJoined, joined_part}
use Rattle.vx_arrow_interleave.specs.Sources.{AreRows, part_at, shows_valid}
use Rattle.vx_arrow_interleave.specs.Spots.{Spot, spot_at}
use Rattle.vx_arrow_interleave.specs.Tested.{AreReadable, AreTagged}
use Rattle.vx_arrow_interleave.proofs.JoinedNodes.{below_is, belows_len, child_row, held_by, node_from, place_source, record_at, same_format}
use Rattle.vx_arrow_interleave.proofs.JoinedRows.{get_place, length_places}

first_of : (xs ys : List ℕ) (a b : ℕ) → take 1 (drop (a * 1) xs) ≡ take 1 (drop (b * 1) ys) → get_or xs a 0 ≡ get_or ys b 0
first_of xs ys a b e =
    let here : 0 < 1 = omega arith in
    let at : (l : List ℕ) (n : ℕ) → get_or (take 1 (drop (n * 1) l)) 0 0 ≡ get_or l n 0 = λ l n.
    get_or-take 1 (drop (n * 1) l) 0 0 here ∙ get_or-drop (n * 1) l 0 0 ∙ ap (λ m. get_or l m 0) (let f : n * 1 + 0 ≡ n = omega arith in f) in
    sym (at xs a) ∙ ap (λ l. get_or l 0 0) e ∙ at ys b

-- a place among the rows has an id
pub ids_there : (ps : List Part) (ss : List Spot) → AreRows ps ss → AreTagged ps (places ps ss) → HoldRecords 1 ps (places ps ss)
ids_there ps ss rows tags = record {
  source = λ k h. let low : k < length ss = omega (arith, length_places ps ss) in place_source ps ss k rows low;
  held = λ k h.
      let low : k < length ss = omega (arith, length_places ps ss) in
      let at = get_place ps ss k low in
      let s = spot_at ss k in
      let ids = has_ids (part_at ps s.source) (tags.held s.source (rows.source k low)) in
      let row = rows.row k low in
      subst (λ (t : Spot). t.row * 1 + 1 ≤ length (part_at ps t.source).values) (sym at) (omega (arith, ids.values, row));
}

bare_row : (p : Part) (cs : List (List RowValue)) (i : ℕ) → p.format ≡ Some Union → length p.valid ≡ 0 → row_of p cs i ≡ value_at (Some Union) p cs i
bare_row p cs i format e = ap (λ (v : List ℕ). cond (is_valid v i) (value_at p.format p cs i) null) (no_bits p.valid e) ∙ ap (λ (f : Option Format). value_at f p cs i) format

-- a child's row, or that of no child
any_child : (ps : List Part) (ss : List Spot) (css : ℕ → List (List RowValue)) (ds : List (List RowValue)) (j k : ℕ) → (part_at ps 0).format ≡ Some Union → below ps ss ≡ places ps ss → AreRows ps ss → AreChildren (length ps) (belows ps ss) css ds → k < length ss
    → get_or (get_or ds j []) k null ≡ get_or (get_or (css (spot_at (places ps ss) k).source) j []) (spot_at (places ps ss) k).row null
any_child ps ss css ds j k format is rows a h =
    let t = spot_at (places ps ss) k in
    let new : length ds ≡ (part_at ps 0).children = a.new_len ∙ belows_len ps ss in
    let old : length (css t.source) ≡ (part_at ps 0).children = a.old_len t.source (place_source ps ss k rows h) ∙ belows_len ps ss in
    elim (cases_lt j (part_at ps 0).children) as (λ _. get_or (get_or ds j []) k null ≡ get_or (get_or (css t.source) j []) t.row null) [
      | inl low ↦ child_row ps ss css ds j k (Some Union) format refl is a low h
      | inr high ↦ ap (λ (l : List RowValue). get_or l k null) (get_or_past ds j [] (omega (arith, new))) ∙ sym (ap (λ (l : List RowValue). get_or l t.row null) (get_or_past (css t.source) j [] (omega (arith, old))))
    ]

child_here : (w : Part) (k id : ℕ) (ids : List ℕ) → get_or w.values k 0 ≡ id → ids_of w ≡ ids → list_any (λ x. eqb x id) ids ≡ true → has_child w k ≡ true
unfolding has_child
child_here w k id ids e f h = ap₂ (λ (a : ℕ) (l : List ℕ). list_any (λ x. eqb x a) l) e f ∙ h

pub union_joined : (ps : List Part) (ss : List Spot) (v o x s : List ℕ) → (part_at ps 0).format ≡ Some Union → AreReadable ps ss → length ss ≤ length x → (part_at ps 0).children ≤ length s
    → take (length (places ps ss)) x ≡ records 1 ps (places ps ss) → take (part_at ps 0).children s ≡ ids_of (part_at ps 0) → IsJoined ps ss (joined_part ps ss v o x s)
union_joined ps ss v o x s format r far room are ids =
    let w = joined_part ps ss v o x s in
    let S = places ps ss in
    let p = part_at ps 0 in
    let count = length_places ps ss in
    let tags = held_by ps ss (Some Union) format r in
    let some = r.alike in
    let has = has_ids p (tags.held 0 some.some) in
    let none : shows_valid ps ≡ false = ap (λ (f : Option Format). shows_by f (list_any (λ (q : Part). has_bits q.valid) ps)) format in
    let bare : cond (shows_valid ps) v [] ≡ [] = ap (λ b. cond b v []) none in
    let is : below ps ss ≡ S = below_is ps ss (Some Union) format in
    let size : length (below ps ss) ≡ length ss = ap length is ∙ count in
    let there = ids_there ps ss r.rows tags in
    let all : take (length S * 1) x ≡ records 1 ps S = ap (λ n. take n x) (let e : length S * 1 ≡ length S = omega arith in e) ∙ are in
    let id : (k : ℕ) → k < length ss → get_or x k 0 ≡ get_or (part_at ps (spot_at S k).source).values (spot_at S k).row 0 =
    λ k h. first_of x (part_at ps (spot_at S k).source).values k (spot_at S k).row (record_at 1 ps S x k there all (omega (arith, count))) in
    node_from ps ss v o x s Union format refl r (λ e. absurd (let f : true ≡ false = sym e ∙ none in cc))
    (and_from _ _ (ids_held w (ap length bare) has.some room (omega arith))
    (and_from _ _ (long_all (0 + length ss) (length (below ps ss)) p.children (omega (arith, size)))
    (range_all (has_child w) 0 (length ss) (λ k low high.
    let h : k < length ss = omega arith in
    let t = spot_at S k in
    child_here w k (get_or (part_at ps t.source).values t.row 0) (ids_of p) (id k h) ids
    (ap (λ (l : List ℕ). list_any (λ y. eqb y (get_or (part_at ps t.source).values t.row 0)) l) (sym (tags.ids t.source (place_source ps ss k r.rows h)))
    ∙ child_there (part_at ps t.source) t.row (tags.tagged k (omega (arith, count))))))))
    (λ css ds a. record {
      rows = λ k h.
          let t = spot_at S k in
          let source = place_source ps ss k r.rows h in
          let q = part_at ps t.source in
          let own = has_ids q (tags.held t.source source) in
          bare_row w ds k format (ap length bare)
          ∙ ap₂ (λ (n : ℕ) (l : List ℕ). tagged n (get_or (get_or ds (child_of l n) []) k null)) (id k h) (ids ∙ sym (tags.ids t.source source))
          ∙ ap (tagged (get_or q.values t.row 0)) (any_child ps ss css ds (child_of (ids_of q) (get_or q.values t.row 0)) k format is r.rows a h)
          ∙ sym (bare_row q (css t.source) t.row (same_format ps t.source (Some Union) r.alike source format) own.bare);
    })
