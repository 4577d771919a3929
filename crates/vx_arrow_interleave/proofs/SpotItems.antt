-- The items of the rows of spans.
use Rattle.std.proofs.Common.{zero, suc, ◌≡◌, ℕ, ◌+◌, ◌-◌, ◌*◌, ◌<◌, ◌≤◌, Bool, true, false, cond, List, [], ◌++◌, length, ap, ap₂, sym, ◌∙◌, subst, inl, inr, arith, length-append, lit<}
use Rattle.std.specs.List.{flat_map, range_with_len}
use Rattle.std.proofs.lemmas.Bool.{cases_eq}
use Rattle.std.proofs.lemmas.List.{append-nil, append_assoc, flat_map_more}
use Rattle.std.proofs.lemmas.List.Concat.{flat_map-append}
use Rattle.std.proofs.lemmas.List.Folds.{flat_map-map}
use Rattle.vx_arrow_image.specs.declared.format.Offsets.{Offsets}
use Rattle.vx_arrow_image.specs.declared.format.Offsets.TheVariants.{Short, Long}
use Rattle.vx_arrow_image.specs.Image.{Part, holds_offsets, is_cut, is_valid, limit_of, offset_at}
use Rattle.vx_lemmas.proofs.Lists.{range_more}
use Rattle.vx_arrow_interleave.specs.Cuts.{AreCut, room_of}
use Rattle.vx_arrow_interleave.specs.Given.{fixed_items, fixed_row, items, items_at, row_items}
use Rattle.vx_arrow_interleave.specs.Sources.{is_there, part_at}
use Rattle.vx_arrow_interleave.specs.Spots.{Spot, run_of, spot}
use Rattle.vx_arrow_interleave.proofs.SourceRows.{Each, each_append, each_none, each_run}
use Rattle.vx_arrow_interleave.proofs.SpotLists.{run_join, run_len}

-- ---- rows of one node

limit_some : (z : Offsets) → 0 < limit_of z
limit_some Short = lit< tt
limit_some Long = lit< tt

-- the items of so many rows of a node
abbrev pub node_items : Offsets → Part → ℕ → ℕ → ℕ → List Spot
node_items z p s a n = flat_map (items_at z p s) (range_with_len a n)

pub node_items_none : (z : Offsets) (p : Part) (s a n : ℕ) → n ≡ 0 → node_items z p s a n ≡ []
node_items_none z p s a n e = ap (node_items z p s a) e

pub node_items_more : (z : Offsets) (p : Part) (s a n m i : ℕ) → n + 1 ≡ m → a + n ≡ i → node_items z p s a m ≡ node_items z p s a n ++ items_at z p s i
node_items_more z p s a n m i e f =
    ap (node_items z p s a) (sym e) ∙ ap (flat_map (items_at z p s)) (range_more a n)
    ∙ sym (flat_map_more (items_at z p s) [] (range_with_len a n) (a + n)) ∙ ap (λ (k : ℕ). node_items z p s a n ++ items_at z p s k) f

-- the items of the first n rows of a node from one on, which are tested and counted
pub record RowsTo (texts : Bool) (z : Offsets) (p : Part) (s a n total sum : ℕ) (old new : List Spot) : Type 0 where
  pub items : new ≡ old ++ node_items z p s a n
  pub counted : sum ≡ total + length (node_items z p s a n)
  pub small : sum < limit_of z
  pub cut : (i : ℕ) → a ≤ i → i < a + n → is_valid p.valid i ≡ true → is_cut z p (room_of texts z p) i ≡ true

pub rows_none : (texts : Bool) (z : Offsets) (p : Part) (s a n total sum : ℕ) (old new : List Spot) → n ≡ 0 → sum ≡ total → total < limit_of z → new ≡ old → RowsTo texts z p s a n total sum old new
rows_none texts z p s a n total sum old new none same few e =
    let bare = node_items_none z p s a n none in
    record {
      items = e ∙ sym (append-nil old) ∙ ap (λ (l : List Spot). old ++ l) (sym bare);
      counted = let z = ap length bare in omega arith;
      small = omega arith;
      cut = λ i h l. absurd (omega arith);
    }

rows_step : (texts : Bool) (z : Offsets) (p : Part) (s a n m i total sum after : ℕ) (old new more own : List Spot) → n + 1 ≡ m → a + n ≡ i → items_at z p s i ≡ own → more ≡ new ++ own → after ≡ sum + length own → after < limit_of z
    → (is_valid p.valid i ≡ true → is_cut z p (room_of texts z p) i ≡ true) → RowsTo texts z p s a n total sum old new → RowsTo texts z p s a m total after old more
rows_step texts z p s a n m i total sum after old new more own e f is pushed counted few cut t =
    let all : node_items z p s a m ≡ node_items z p s a n ++ own = node_items_more z p s a n m i e f ∙ ap (λ (l : List Spot). node_items z p s a n ++ l) is in
    record {
      items = pushed ∙ ap (λ (l : List Spot). l ++ own) t.items ∙ append_assoc old (node_items z p s a n) own ∙ ap (λ (l : List Spot). old ++ l) (sym all);
      counted = omega (arith, counted, t.counted, ap length all, length-append (node_items z p s a n) own);
      small = few;
      cut = λ j h l there. elim (cases_eq j i) as (λ _. is_cut z p (room_of texts z p) j ≡ true) [
        | inl same ↦ subst (λ (k : ℕ). is_cut z p (room_of texts z p) k ≡ true) (sym same) (cut (ap (is_valid p.valid) (sym same) ∙ there))
        | inr other ↦ t.cut j h (omega arith) there
      ];
    }

-- a row that is there
pub rows_some : (texts : Bool) (z : Offsets) (p : Part) (s a n m i total sum after from to len : ℕ) (old new more : List Spot) → n + 1 ≡ m → a + n ≡ i → is_valid p.valid i ≡ true → from ≡ offset_at z p.offsets i → to ≡ offset_at z p.offsets (i + 1) → to - from ≡ len
    → more ≡ new ++ run_of s from len → after ≡ sum + len → after < limit_of z → is_cut z p (room_of texts z p) i ≡ true → RowsTo texts z p s a n total sum old new → RowsTo texts z p s a m total after old more
rows_some texts z p s a n m i total sum after from to len old new more e f there low high size pushed counted few cut t =
    let at = offset_at z p.offsets i in
    let own : items_at z p s i ≡ run_of s from len = ap (λ (b : Bool). cond b (run_of s at (offset_at z p.offsets (i + 1) - at)) []) there ∙ ap₂ (λ (x : ℕ) (y : ℕ). run_of s x (y - x)) (sym low) (sym high) ∙ ap (run_of s from) size in
    rows_step texts z p s a n m i total sum after old new more (run_of s from len) e f own pushed (counted ∙ ap (λ (k : ℕ). sum + k) (sym (run_len s from len))) few (λ _. cut) t

-- a null
pub rows_null : (texts : Bool) (z : Offsets) (p : Part) (s a n m i total sum after : ℕ) (old new more : List Spot) → n + 1 ≡ m → a + n ≡ i → is_valid p.valid i ≡ false → more ≡ new → after ≡ sum → RowsTo texts z p s a n total sum old new → RowsTo texts z p s a m total after old more
rows_null texts z p s a n m i total sum after old new more e f there pushed counted t =
    let at = offset_at z p.offsets i in
    let own : items_at z p s i ≡ [] = ap (λ (b : Bool). cond b (run_of s at (offset_at z p.offsets (i + 1) - at)) []) there in
    rows_step texts z p s a n m i total sum after old new more [] e f own (pushed ∙ sym (append-nil new)) (omega arith) (let few = t.small in omega arith) (λ valid. absurd (false_true (sym there ∙ valid))) t
  where
    false_true : false ≡ true → ⊥
    false_true e = cc

-- ---- rows of several

pub items_append : (z : Offsets) (ps : List Part) (xs ys : List Spot) → items z ps (xs ++ ys) ≡ items z ps xs ++ items z ps ys
unfolding items
items_append z ps xs ys = flat_map-append (row_items z ps) xs ys

pub items_none : (z : Offsets) (ps : List Part) (ss : List Spot) → ss ≡ [] → items z ps ss ≡ []
unfolding items
items_none z ps ss e = ap (flat_map (row_items z ps)) e

pub items_run : (z : Offsets) (ps : List Part) (p : Part) (s a n : ℕ) → part_at ps s ≡ p → items z ps (run_of s a n) ≡ node_items z p s a n
unfolding items
items_run z ps p s a n e = flat_map-map (row_items z ps) (spot s) (range_with_len a n) ∙ ap (λ (q : Part). node_items z q s a n) e

-- the items of rows that are tested and counted
pub record ItemsTo (texts : Bool) (z : Offsets) (ps : List Part) (ss : List Spot) (total : ℕ) (list : List Spot) : Type 0 where
  pub listed : list ≡ items z ps ss
  pub counted : total ≡ length (items z ps ss)
  pub small : total < limit_of z
  pub held : Each (λ (s : Spot). holds_offsets z (part_at ps s.source) ≡ true) ss
  pub cut : Each (λ (s : Spot). is_there ps s ≡ true → is_cut z (part_at ps s.source) (room_of texts z (part_at ps s.source)) s.row ≡ true) ss

pub to_none : (texts : Bool) (z : Offsets) (ps : List Part) (ss : List Spot) (total : ℕ) (list : List Spot) → ss ≡ [] → total ≡ 0 → list ≡ [] → ItemsTo texts z ps ss total list
to_none texts z ps ss total list e none bare =
    let all = items_none z ps ss e in
    record {
      listed = bare ∙ sym all;
      counted = none ∙ sym (ap length all);
      small = let s = limit_some z in omega arith;
      held = each_none _ ss e;
      cut = each_none _ ss e;
    }

pub to_same : (texts : Bool) (z : Offsets) (ps : List Part) (ss more : List Spot) (total after : ℕ) (list new : List Spot) → more ≡ ss → after ≡ total → new ≡ list → ItemsTo texts z ps ss total list → ItemsTo texts z ps more after new
to_same texts z ps ss more total after list new e f g t =
    subst (λ (l : List Spot). ItemsTo texts z ps l after new) (sym e) (subst (λ (n : ℕ). ItemsTo texts z ps ss n new) (sym f) (subst (λ (l : List Spot). ItemsTo texts z ps ss total l) (sym g) t))

-- those of one run more
pub to_more : (texts : Bool) (z : Offsets) (ps : List Part) (p : Part) (ss more : List Spot) (s a n total after : ℕ) (list new : List Spot) → more ≡ ss ++ run_of s a n → part_at ps s ≡ p → holds_offsets z p ≡ true
    → RowsTo texts z p s a n total after list new → ItemsTo texts z ps ss total list → ItemsTo texts z ps more after new
to_more texts z ps p ss more s a n total after list new e at held r t =
    let all : items z ps more ≡ items z ps ss ++ node_items z p s a n = ap (items z ps) e ∙ items_append z ps ss (run_of s a n) ∙ ap (λ (l : List Spot). items z ps ss ++ l) (items_run z ps p s a n at) in
    let H = λ (x : Spot). holds_offsets z (part_at ps x.source) ≡ true in
    let C = λ (x : Spot). is_there ps x ≡ true → is_cut z (part_at ps x.source) (room_of texts z (part_at ps x.source)) x.row ≡ true in
    record {
      listed = r.items ∙ ap (λ (l : List Spot). l ++ node_items z p s a n) t.listed ∙ sym all;
      counted = omega (arith, r.counted, t.counted, ap length all, length-append (items z ps ss) (node_items z p s a n));
      small = r.small;
      held = each_append H ss (run_of s a n) more e t.held (each_run H s a n (λ i h l. ap (holds_offsets z) at ∙ held));
      cut = each_append C ss (run_of s a n) more e t.cut (each_run C s a n (λ i h l. subst (λ (q : Part). is_valid q.valid i ≡ true → is_cut z q (room_of texts z q) i ≡ true) (sym at) (r.cut i h l)));
    }

pub to_cut : (texts : Bool) (z : Offsets) (ps : List Part) (ss : List Spot) (total : ℕ) (list : List Spot) → ItemsTo texts z ps ss total list → AreCut texts z ps ss
to_cut texts z ps ss total list t = record { held = λ k h. t.held.at k h; cut = λ k h. t.cut.at k h }

-- ---- items, so many a row

pub fixed_append : (w : ℕ) (xs ys : List Spot) → fixed_items w (xs ++ ys) ≡ fixed_items w xs ++ fixed_items w ys
unfolding fixed_items
fixed_append w xs ys = flat_map-append (fixed_row w) xs ys

pub fixed_none : (w : ℕ) (ss : List Spot) → ss ≡ [] → fixed_items w ss ≡ []
unfolding fixed_items
fixed_none w ss e = ap (flat_map (fixed_row w)) e

pub fixed_run : (w s a n : ℕ) → fixed_items w (run_of s a n) ≡ run_of s (a * w) (n * w)
unfolding fixed_items
fixed_run w s a zero = let none : 0 * w ≡ 0 = omega arith in ap (run_of s (a * w)) (sym none)
fixed_run w s a (suc n) =
    let next : (a + 1) * w ≡ a * w + w = omega arith in
    let all : w + n * w ≡ suc n * w = omega arith in
    ap (λ (l : List Spot). run_of s (a * w) w ++ l) (fixed_run w s (a + 1) n ∙ ap (λ (k : ℕ). run_of s k (n * w)) next)
    ∙ run_join s (a * w) w (n * w) ∙ ap (run_of s (a * w)) all

-- ---- one row's cut

pub in_text : (texts : Bool) (z : Offsets) (p : Part) (end : ℕ) → texts ≡ true → end ≤ length p.values → end ≤ room_of texts z p
in_text texts z p end e h = subst (λ (b : Bool). end ≤ room_of b z p) (sym e) h

pub in_list : (texts : Bool) (z : Offsets) (p : Part) (end : ℕ) → texts ≡ false → end < limit_of z → end ≤ room_of texts z p
in_list texts z p end e h = subst (λ (b : Bool). end ≤ room_of b z p) (sym e) (omega arith)
