-- What each format's tests find.
use Rattle.std.proofs.Common.{◌≡◌, ℕ, ◌+◌, ◌*◌, ◌/◌, ◌^◌, ◌<◌, ◌≤◌, Bool, true, false, List, [], ◌∷◌, length, get_or, take, drop, map, Option, Some, None, ap, ap₂, sym, ◌∙◌, refl, subst, arith}
use Rattle.std.specs.Prelude.{Result, Ok, Err, IfOk, OnOk, replicate}
use Rattle.std.specs.Option.{option_map}
use Rattle.std.proofs.lemmas.Bool.{lt-ltb}
use Rattle.std.proofs.lemmas.List.{get_or-map, length-map}
use Rattle.vx_arrow_image.specs.declared.format.Format.{Format}
use Rattle.vx_arrow_image.specs.declared.format.Format.TheVariants.{Nulls, Bits, Fixed, Text, List as Lists, FixedList, Struct, TextView, ListView, Union, DenseUnion}
use Rattle.vx_arrow_image.specs.declared.format.Offsets.{Offsets}
use Rattle.vx_arrow_image.specs.declared.format.Offsets.TheVariants.{Short}
use Rattle.vx_arrow_columns.specs.declared.needs.Inner.{Inner}
use Rattle.vx_arrow_columns.specs.declared.needs.Inner.TheVariants as inners
use Rattle.vx_arrow_columns.specs.declared.needs.Items.{Items}
use Rattle.vx_arrow_columns.specs.declared.needs.Measure.{Measure}
use Rattle.vx_arrow_image.specs.declared.image.Node as image
use Rattle.vx_arrow_image.specs.Image.{Part, holds_starts, is_list_view, is_placed, limit_of, parts_of, has_child, holds_ids}
use Rattle.vx_arrow_columns.specs.Measured.{AreBelow, AreDenseItems, AreItems, AreListed, AreMeasured, IsInner, IsLeaf, IsMeasured, IsItemsLen, list_places, list_valid, moved}
use Rattle.vx_arrow_columns.specs.Picks.{Picking, all_rows, below, counts_by, fixed_items, has_bits, inner, inner_nullable, inner_picks, inners_by, keeps, splits, items_of, picking_of, picks_of, values_len}
use Rattle.vx_arrow_columns.specs.Planned.{child_lens, first_len, tree_lens}
use Rattle.vx_arrow_columns.specs.Sound.{AsksBelow, HoldsBelow, IsSoundAt}
use Rattle.vx_arrow_columns.specs.Taken.{AllAt, AreInside, AreWithin, Holds, IsReadable, is_inside}
use Rattle.vx_arrow_image.proofs.SoundNodes.{has_ids}
use Rattle.vx_arrow_columns.proofs.DenseItems.{dense_below}
use Rattle.vx_arrow_columns.proofs.FixedLists.{items_within}
use Rattle.vx_arrow_columns.proofs.OwnTaken.{counted_from}
use Rattle.vx_arrow_columns.proofs.PickReads.{all_picks, length_picks, placed_end}

pub ok_weaker : {T E : Type 0} (P Q : T → Type 0) (r : Result T E) → ((x : T) → P x → Q x) → IfOk r P → IfOk r Q
ok_weaker P Q (Ok x) f h = f x h
ok_weaker P Q (Err e) f h = h

pub ok_then : {T E : Type 0} (P Q : Type 0) (r : Result T E) → (P → Q) → OnOk r P → OnOk r Q
ok_then P Q (Ok x) f h = f h
ok_then P Q (Err e) f h = h

readable : (p : Part) (ps vs : List ℕ) (add : ℕ) (f : Format) → p.format ≡ Some f → length ps < 2 ^ 60 → is_placed p ≡ true → AreWithin (picks_of ps vs add) p.len
    → counts_by (Some f) p (picks_of ps vs add) ≡ true → Holds (Some f) p (picks_of ps vs add) → IsReadable p (picks_of ps vs add)
readable p ps vs add f format few placed within counted held = record {
  placed = placed;
  within = within;
  counted = counted_from p (picks_of ps vs add) (Some f) format (omega (arith, length_picks ps vs add)) counted;
  held = subst (λ (g : Option Format). Holds g p (picks_of ps vs add)) (sym format) held;
}

-- what a sound node's children have, by its format
pub below_by : (p : Part) (q : List (Option ℕ)) (lens : List ℕ) (f : Format) → p.format ≡ Some f → IsSoundAt p q lens → HoldsBelow (Some f) p q lens
below_by p q lens f format s = subst (λ (g : Option Format). HoldsBelow g p q lens) format s.below

leaf_measured : (p : Part) (q : Picking) (f : Format) (values : ℕ) (m : Measure) → p.format ≡ Some f → IsReadable p q.picks → values ≡ values_len (Some f) p q.picks → IsLeaf p values m → IsMeasured p q m
leaf_measured p q f values m format r same l = record {
  readable = r;
  values = l.values_are ∙ same ∙ ap (λ (g : Option Format). values_len g p q.picks) (sym format);
  children = subst (λ (i : Inner). IsInner p q i) (sym l.inner_is) l.leaf;
  asks = λ lens s. subst (λ (i : Inner). AsksBelow p lens i) (sym l.inner_is) tt;
}

pub nulls_measured : (p : Part) (ps vs : List ℕ) (add : ℕ) (m : Measure) → p.format ≡ Some Nulls → length ps < 2 ^ 60 → is_placed p ≡ true → AreWithin (picks_of ps vs add) p.len → IsLeaf p 0 m → IsMeasured p (picking_of ps vs add) m
nulls_measured p ps vs add m format few placed within l = leaf_measured p (picking_of ps vs add) Nulls 0 m format (readable p ps vs add Nulls format few placed within refl l.leaf) refl l

pub bits_measured : (p : Part) (ps vs : List ℕ) (add n : ℕ) (m : Measure) → p.format ≡ Some Bits → length ps < 2 ^ 60 → is_placed p ≡ true → AreWithin (picks_of ps vs add) p.len
    → p.offset + p.len ≤ 8 * length p.values → n ≡ (length ps + 7) / 8 → IsLeaf p n m → IsMeasured p (picking_of ps vs add) m
bits_measured p ps vs add n m format few placed within held size l =
    leaf_measured p (picking_of ps vs add) Bits n m format (readable p ps vs add Bits format few placed within refl (l.leaf, held)) (size ∙ ap (λ k. (k + 7) / 8) (sym (length_picks ps vs add))) l

pub fixed_measured : (p : Part) (ps vs : List ℕ) (add n : ℕ) (m : Measure) → p.format ≡ Some Fixed → length ps < 2 ^ 60 → is_placed p ≡ true → AreWithin (picks_of ps vs add) p.len
    → (p.offset + p.len) * p.width ≤ length p.values → n ≡ length ps * p.width → n < 2 ^ 63 → IsLeaf p n m → IsMeasured p (picking_of ps vs add) m
fixed_measured p ps vs add n m format few placed within held size small l =
    let same : n ≡ length (picks_of ps vs add) * p.width = size ∙ ap (λ k. k * p.width) (sym (length_picks ps vs add)) in
    leaf_measured p (picking_of ps vs add) Fixed n m format (readable p ps vs add Fixed format few placed within (lt-ltb _ _ (subst (λ k. k < 2 ^ 63) same small)) (l.leaf, held)) same l

pub fixed_at : (p : Part) (count n : ℕ) (m : Measure) → p.format ≡ Some Fixed → count < 2 ^ 60 → is_placed p ≡ true → (p.offset + p.len) * p.width ≤ length p.values → n ≡ count * p.width → n < 2 ^ 63 → IsLeaf p n m → AreMeasured p count m
fixed_at p count n m format few placed held size small l ps vs add e within =
    fixed_measured p ps vs add n m format (omega arith) placed within held (size ∙ ap (λ (k : ℕ). k * p.width) (sym e)) small l

pub text_measured : (z : Offsets) (p : Part) (ps vs : List ℕ) (add n : ℕ) (m : Measure) → p.format ≡ Some (Text z) → length ps < 2 ^ 60 → is_placed p ≡ true → AreWithin (picks_of ps vs add) p.len
    → IsItemsLen z p (picks_of ps vs add) (length p.values) n → IsLeaf p n m → IsMeasured p (picking_of ps vs add) m
text_measured z p ps vs add n m format few placed within t l =
    leaf_measured p (picking_of ps vs add) (Text z) n m format (readable p ps vs add (Text z) format few placed within (lt-ltb _ _ (subst (λ k. k < limit_of z) t.len t.small)) (l.leaf, t.cut)) t.len l

pub same_picking : (a b : Picking) → a.picks ≡ b.picks → a.nullable ≡ b.nullable → a.kept ≡ b.kept → a ≡ b
same_picking a b e f g =
    let make : List (Option ℕ) → Bool → Bool → Picking = λ x y z. record { picks = x; nullable = y; kept = z } in
    ap₂ (λ (x : List (Option ℕ)) (y : Bool). make x y a.kept) e f ∙ ap (make b.picks b.nullable) g

-- the children of a node of such a format are kept
kept_inner : (p : Part) (q : Picking) (f : Format) → p.format ≡ Some f → inner_picks (Some f) p q.picks ≡ [] → inner_nullable (Some f) q.nullable ≡ false → keeps (Some f) ≡ true → inner p q ≡ all_rows
kept_inner p q f format a b c =
    same_picking _ _ (ap (λ (g : Option Format). inner_picks g p q.picks) format ∙ a) (ap (λ (g : Option Format). inner_nullable g q.nullable) format ∙ b) (ap keeps format ∙ c)

pub text_view_measured : (p : Part) (ps vs : List ℕ) (add n : ℕ) → p.format ≡ Some TextView → length ps < 2 ^ 60 → is_placed p ≡ true → AreWithin (picks_of ps vs add) p.len
    → 16 * (p.offset + p.len) ≤ length p.values → n ≡ 16 * length ps → n < 2 ^ 63 → IsMeasured p (picking_of ps vs add) (record { values = n; inner = inners.Kept })
text_view_measured p ps vs add n format few placed within held size small =
    let q = picks_of ps vs add in
    let same : n ≡ 16 * length q = size ∙ ap (λ (k : ℕ). 16 * k) (sym (length_picks ps vs add)) in
    record {
      readable = readable p ps vs add TextView format few placed within (lt-ltb _ _ (subst (λ (k : ℕ). k < 2 ^ 63) same small)) held;
      values = same ∙ ap (λ (g : Option Format). values_len g p q) (sym format);
      children = ap (λ (g : Option Format). inners_by g p (picking_of ps vs add)) format ∙ ap (replicate p.children) (kept_inner p (picking_of ps vs add) TextView format refl refl refl);
      asks = λ lens s. tt;
    }

pub list_view_measured : (z : Offsets) (p : Part) (ps vs : List ℕ) (add : ℕ) → p.format ≡ Some (ListView z) → length ps < 2 ^ 60 → is_placed p ≡ true → AreWithin (picks_of ps vs add) p.len → p.children ≡ 1
    → holds_starts z p.offsets (p.offset + p.len) ≡ true → holds_starts z p.sizes (p.offset + p.len) ≡ true → IsMeasured p (picking_of ps vs add) (record { values = 0; inner = inners.Kept })
list_view_measured z p ps vs add format few placed within one offsets sizes = record {
  readable = readable p ps vs add (ListView z) format few placed within refl (one, offsets, sizes);
  values = ap (λ (g : Option Format). values_len g p (picks_of ps vs add)) (sym format);
  children = ap (λ (g : Option Format). inners_by g p (picking_of ps vs add)) format ∙ ap (replicate p.children) (kept_inner p (picking_of ps vs add) (ListView z) format refl refl refl);
  asks = λ lens s. tt;
}

moved_inner : (p : Part) (q : Picking) (f : Format) → p.format ≡ Some f → inner_picks (Some f) p q.picks ≡ map (option_map (λ i. p.offset + i)) q.picks → inner_nullable (Some f) q.nullable ≡ q.nullable → keeps (Some f) ≡ false → inner p q ≡ moved p.offset q
moved_inner p q f format a b c =
    same_picking _ _ (ap (λ (g : Option Format). inner_picks g p q.picks) format ∙ a) (ap (λ (g : Option Format). inner_nullable g q.nullable) format ∙ b) (ap keeps format ∙ c)

pub union_measured : (p : Part) (ps vs : List ℕ) (add n : ℕ) → p.format ≡ Some Union → length ps < 2 ^ 60 → is_placed p ≡ true → AreWithin (picks_of ps vs add) p.len → holds_ids p ≡ true → AllAt p (picks_of ps vs add) (has_child p)
    → n ≡ length ps → IsMeasured p (picking_of ps vs add) (record { values = n; inner = inners.Same })
union_measured p ps vs add n format few placed within held ids size = record {
  readable = readable p ps vs add Union format few placed within refl (held, ids);
  values = size ∙ sym (length_picks ps vs add) ∙ ap (λ (g : Option Format). values_len g p (picks_of ps vs add)) (sym format);
  children = (moved_inner p (picking_of ps vs add) Union format refl refl refl, refl, placed_end p placed, ap splits format);
  asks = λ lens s. below_by p (picks_of ps vs add) lens Union format s;
}

pub dense_measured : (p : Part) (ps vs : List ℕ) (add n : ℕ) (items : List Items) (inside : Inner) → p.format ≡ Some DenseUnion → length ps < 2 ^ 60 → is_placed p ≡ true → AreWithin (picks_of ps vs add) p.len → holds_ids p ≡ true
    → holds_starts Short p.offsets (p.offset + p.len) ≡ true → AllAt p (picks_of ps vs add) (has_child p) → n ≡ length ps → n < 2 ^ 31 → AreDenseItems p (picking_of ps vs add) p.children items → IsInner p (picking_of ps vs add) inside
    → ((lens : List ℕ) → ((j : ℕ) (d : Items) → j < length items → (get_or items j d).end ≤ get_or lens j 0) → AsksBelow p lens inside) → IsMeasured p (picking_of ps vs add) (record { values = n; inner = inside })
dense_measured p ps vs add n items inside format few placed within held starts ids size small are is asks =
    let q = picks_of ps vs add in
    let same : n ≡ length q = size ∙ sym (length_picks ps vs add) in
    let has = has_ids p held in
    record {
      readable = readable p ps vs add DenseUnion format few placed within (lt-ltb _ _ (subst (λ (k : ℕ). k < 2 ^ 31) same small)) (held, starts, ids);
      values = same ∙ ap (λ (g : Option Format). values_len g p q) (sym format);
      children = is;
      asks = λ lens s. asks lens (λ j d h. let item = are.are j d (omega (arith, are.len)) in item.reached (get_or lens j 0) (dense_below p q lens j has.bare (below_by p q lens DenseUnion format s)));
    }

pub struct_measured : (p : Part) (ps vs : List ℕ) (add : ℕ) (m : Measure) → p.format ≡ Some Struct → length ps < 2 ^ 60 → is_placed p ≡ true → AreWithin (picks_of ps vs add) p.len
    → m.values ≡ 0 → m.inner ≡ inners.Same → IsMeasured p (picking_of ps vs add) m
struct_measured p ps vs add m format few placed within none same = record {
  readable = readable p ps vs add Struct format few placed within refl tt;
  values = none ∙ ap (λ (g : Option Format). values_len g p (picks_of ps vs add)) (sym format);
  children = subst (λ (i : Inner). IsInner p (picking_of ps vs add) i) (sym same) (moved_inner p (picking_of ps vs add) Struct format refl refl refl, refl, placed_end p placed, ap splits format);
  asks = λ lens s. subst (λ (i : Inner). AsksBelow p lens i) (sym same) (below_by p (picks_of ps vs add) lens Struct format s);
}

pub items_listed : (z : Offsets) (p : Part) (q : Picking) (places : List ℕ) → p.format ≡ Some (Lists z) → places ≡ items_of z p q.picks → inner p q ≡ picking_of places [] 0
items_listed z p q places format items =
    same_picking _ _
    (ap (λ (g : Option Format). inner_picks g p q.picks) format ∙ ap (λ (l : List ℕ). map Some l) (sym items) ∙ sym (all_picks places))
    (ap (λ (g : Option Format). inner_nullable g q.nullable) format) (ap keeps format)

pub below_within : (places : List ℕ) (end : ℕ) → AreBelow places end → AreWithin (picks_of places [] 0) end
below_within places end b = record {
  below = λ k i h e.
      let all = all_picks places in
      let low : k < length places = omega (arith, ap length all, length-map places Some) in
      let at : Some (get_or places k 0) ≡ Some i = sym (get_or-map Some places k 0 None low) ∙ sym (ap (λ (l : List (Option ℕ)). get_or l k None) all) ∙ e in
      let same : get_or places k 0 ≡ i = cc in
      let under = b.below k low in
      omega arith;
}

bare_listed : (p : Part) (q : Picking) (places valid : List ℕ) (end : ℕ) → p.children ≡ 1 → splits p.format ≡ false → valid ≡ [] → below p q ≡ picking_of places [] 0 → AreWithin (picks_of places [] 0) end → AreListed p q places valid end
bare_listed p q places valid end one same none listed within = subst (λ (v : List ℕ). AreListed p q places v end) (sym none) (record { one = one; same = same; listed = listed; within = within })

pub list_measured : (z : Offsets) (p : Part) (ps vs : List ℕ) (add : ℕ) (items : Items) → p.format ≡ Some (Lists z) → length ps < 2 ^ 60 → is_placed p ≡ true → AreWithin (picks_of ps vs add) p.len → p.children ≡ 1
    → AreItems z p (picks_of ps vs add) (list_places items.list) items.end → list_valid items.list ≡ [] → IsMeasured p (picking_of ps vs add) (record { values = 0; inner = inners.Listed items })
list_measured z p ps vs add items format few placed within one are none = record {
  readable = readable p ps vs add (Lists z) format few placed within (lt-ltb _ _ are.small) (one, are.cut);
  values = ap (λ (g : Option Format). values_len g p (picks_of ps vs add)) (sym format);
  children = bare_listed p (picking_of ps vs add) (list_places items.list) (list_valid items.list) items.end one (ap splits format) none (items_listed z p (picking_of ps vs add) (list_places items.list) format are.items) (below_within (list_places items.list) items.end are.below);
  asks = λ lens s. are.reached (get_or lens 0 0) (below_by p (picks_of ps vs add) lens (Lists z) format s);
}

pub fixed_list_measured : (p : Part) (ps vs : List ℕ) (add n : ℕ) (items : Items) → p.format ≡ Some FixedList → length ps < 2 ^ 60 → is_placed p ≡ true → AreWithin (picks_of ps vs add) p.len → p.children ≡ 1
    → (p.offset + p.len) * p.width < 2 ^ 60 → n ≡ length ps * p.width → n < 2 ^ 60
    → picks_of (list_places items.list) (list_valid items.list) 0 ≡ fixed_items p (picks_of ps vs add) → has_bits (list_valid items.list) ≡ has_bits vs → items.end ≡ (p.offset + p.len) * p.width
    → IsMeasured p (picking_of ps vs add) (record { values = 0; inner = inners.Listed items })
fixed_list_measured p ps vs add n items format few placed within one held size small are bits far =
    let q = picks_of ps vs add in
    let same : n ≡ length q * p.width = size ∙ ap (λ (k : ℕ). k * p.width) (sym (length_picks ps vs add)) in
    record {
      readable = readable p ps vs add FixedList format few placed within (lt-ltb _ _ (subst (λ (k : ℕ). k < 2 ^ 60) same small)) (one, held);
      values = ap (λ (g : Option Format). values_len g p q) (sym format);
      children = record {
        one = one;
        same = ap splits format;
        listed = same_picking _ _ (ap (λ (g : Option Format). inner_picks g p q) format ∙ sym are) (ap (λ (g : Option Format). inner_nullable g (has_bits vs)) format ∙ sym bits) (ap keeps format);
        within = subst (λ (l : List (Option ℕ)). AreWithin l items.end) (sym are) (items_within p q items.end within (omega arith));
      };
      asks = λ lens s. let low : (p.offset + p.len) * p.width ≤ get_or lens 0 0 = below_by p q lens FixedList format s in omega arith;
    }

-- ---- what kept children are reached by

bare_inside : (f : Option Format) (p : Part) (lens : List ℕ) (i : ℕ) → keeps f ≡ false → is_inside f p lens i ≡ true
bare_inside None p lens i e = refl
bare_inside (Some Nulls) p lens i e = refl
bare_inside (Some Bits) p lens i e = refl
bare_inside (Some Fixed) p lens i e = refl
bare_inside (Some (Text z)) p lens i e = refl
bare_inside (Some Struct) p lens i e = refl
bare_inside (Some (Lists z)) p lens i e = refl
bare_inside (Some FixedList) p lens i e = refl
bare_inside (Some Union) p lens i e = refl
bare_inside (Some DenseUnion) p lens i e = refl
bare_inside (Some TextView) p lens i e = absurd (let f : true ≡ false = e in cc)
bare_inside (Some (ListView z)) p lens i e = absurd (let f : true ≡ false = e in cc)

pub none_inside : (p : Part) (q : List (Option ℕ)) (lens : List ℕ) (f : Format) → p.format ≡ Some f → keeps (Some f) ≡ false → AreInside p q lens
none_inside p q lens f format e = record { all = λ k i h at. bare_inside p.format p lens i (ap keeps format ∙ e) }

pub inside_from : (p : Part) (q : List (Option ℕ)) (lens : List ℕ) (f : Format) → p.format ≡ Some f → AllAt p q (is_inside (Some f) p lens) → AreInside p q lens
inside_from p q lens f format a = subst (λ (g : Option Format). AllAt p q (is_inside g p lens)) (sym format) a

pub one_len : (p : Part) (nodes : List image.Node) → p.children ≡ 1 → get_or (child_lens p (parts_of nodes)) 0 0 ≡ first_len nodes
unfolding tree_lens
one_len p [] one = ap (λ n. get_or (take n []) 0 0) one
one_len p (n ∷ nodes) one = ap (λ m. get_or (take m (n.len ∷ drop n.children (tree_lens (parts_of nodes)))) 0 0) one

pub list_views_inside : (z : Offsets) (p : Part) (q : List (Option ℕ)) (nodes : List image.Node) (count : ℕ) → p.format ≡ Some (ListView z) → p.children ≡ 1 → count ≡ first_len nodes → AllAt p q (is_list_view z p count) → AreInside p q (child_lens p (parts_of nodes))
list_views_inside z p q nodes count format one e a =
    inside_from p q (child_lens p (parts_of nodes)) (ListView z) format (subst (λ (n : ℕ). AllAt p q (is_list_view z p n)) (e ∙ sym (one_len p nodes one)) a)
