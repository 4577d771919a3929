-- What views show of each buffer, listed.
use Rattle.std.proofs.Common.{zero, suc, ◌≡◌, ℕ, ◌+◌, ◌*◌, ◌^◌, ◌<◌, ◌≤◌, Bool, true, false, cond, eqb, ltb, List, [], ◌∷◌, ◌++◌, length, map, get_or, set, ap, ap₂, sym, ◌∙◌, refl, subst, inl, inr, arith}
use Rattle.std.specs.Prelude.{◌&&◌, Vec}
use Rattle.std.specs.List.{flat_map, range_with_len}
use Rattle.std.specs.declared.alloc.Global.{Global}
use Rattle.std.proofs.lemmas.Bool.{cases_eq, eq-eqb, le-ltb, lt-ltb, ne_eqb}
use Rattle.std.proofs.lemmas.List.{append-nil, append_assoc, ext_get_or, flat_map_more, get_or-map, get_or-set_other, get_or-set_same, length-map, map-set}
use Rattle.std.proofs.lemmas.List.Concat.{flat_map-append}
use Rattle.std.proofs.lemmas.List.Folds.{flat_map-map}
use Rattle.std.proofs.lemmas.List.FromFn.{get_or-map-range_with_len, length-map-range_with_len}
use Rattle.vx_lemmas.proofs.Lists.{range_more}
use Rattle.vx_arrow_image.specs.Image.{Part, is_valid, view_buffer, view_len, view_start}
use Rattle.vx_arrow_interleave.specs.declared.spans.Span.{Span}
use Rattle.vx_arrow_interleave.specs.Given.{row_viewed_item, viewed_item, viewed_items}
use Rattle.vx_arrow_interleave.specs.Sources.{part_at}
use Rattle.vx_arrow_interleave.specs.Spots.{Spot, run_of, spot, spots}
use Rattle.vx_arrow_interleave.specs.TextViews.{HoldsView, ShowViews, list_at, lists_in}
use Rattle.vx_arrow_interleave.proofs.SourceRows.{Each, each_append, each_none, each_run}
use Rattle.vx_arrow_interleave.proofs.SpanItems.{bare_spots}

-- ---- one view

viewed_by : (p : Part) (s i j : ℕ) (a b c : Bool) → is_valid p.valid i ≡ a → ltb 12 (view_len p i) ≡ b → eqb (view_buffer p i) j ≡ c → viewed_item j p s i ≡ cond (a && (b && c)) (run_of s (view_start p i) (view_len p i)) []
viewed_by p s i j a b c e f g =
    ap (λ (x : Bool). cond x (run_of s (view_start p i) (view_len p i)) []) (ap₂ (λ (x : Bool) (y : Bool). x && y) e (ap₂ (λ (x : Bool) (y : Bool). x && y) f g))

pub viewed_there : (p : Part) (s i j : ℕ) → is_valid p.valid i ≡ true → 12 < view_len p i → view_buffer p i ≡ j → viewed_item j p s i ≡ run_of s (view_start p i) (view_len p i)
viewed_there p s i j e f g = viewed_by p s i j true true true e (lt-ltb _ _ f) (eq-eqb _ _ g)

pub viewed_other : (p : Part) (s i j : ℕ) → is_valid p.valid i ≡ true → 12 < view_len p i → (view_buffer p i ≡ j → ⊥) → viewed_item j p s i ≡ []
viewed_other p s i j e f g = viewed_by p s i j true true false e (lt-ltb _ _ f) (ne_eqb _ _ g)

pub viewed_short : (p : Part) (s i j : ℕ) → is_valid p.valid i ≡ true → view_len p i ≤ 12 → viewed_item j p s i ≡ []
viewed_short p s i j e f = viewed_by p s i j true false (eqb (view_buffer p i) j) e (le-ltb _ _ f) refl

pub viewed_null : (p : Part) (s i j : ℕ) → is_valid p.valid i ≡ false → viewed_item j p s i ≡ []
viewed_null p s i j e = viewed_by p s i j false (ltb 12 (view_len p i)) (eqb (view_buffer p i) j) e refl refl

-- ---- one list more

pub list_of : (vs : List (Vec Span Global)) (k : ℕ) (d : Vec Span Global) → k < length vs → d ≡ get_or vs k d → list_at vs k ≡ spots d.items
list_of vs k d h is = get_or-map (λ (v : Vec Span Global). spots v.items) vs k d [] h ∙ ap (λ (v : Vec Span Global). spots v.items) (sym is)

-- what one view shows is pushed to the list of its buffer
pub view_pushed : (vs : List (Vec Span Global)) (p : Part) (s i k n a : ℕ) (v d : Vec Span Global) → is_valid p.valid i ≡ true → 12 < n → n ≡ view_len p i → k ≡ view_buffer p i → a ≡ view_start p i → k < length vs → d ≡ get_or vs k d → spots v.items ≡ spots d.items ++ run_of s a n
    → (j : ℕ) → list_at (set vs k v) j ≡ list_at vs j ++ viewed_item j p s i
view_pushed vs p s i k n a v d there long len buffer start h is e j =
    let f = λ (x : Vec Span Global). spots x.items in
    let all : lists_in (set vs k v) ≡ set (lists_in vs) k (spots v.items) = map-set f vs k v in
    let low : 12 < view_len p i = omega arith in
    elim (cases_eq j k) as (λ _. list_at (set vs k v) j ≡ list_at vs j ++ viewed_item j p s i) [
      | inl same ↦
          let inside : k < length (lists_in vs) = omega (arith, length-map vs f) in
          let own : run_of s a n ≡ viewed_item k p s i = ap₂ (run_of s) start len ∙ sym (viewed_there p s i k there low (sym buffer)) in
          subst (λ (m : ℕ). list_at (set vs k v) m ≡ list_at vs m ++ viewed_item m p s i) (sym same)
          (ap (λ (l : List (List Spot)). get_or l k []) all ∙ get_or-set_same (lists_in vs) k (spots v.items) [] inside ∙ e
          ∙ ap₂ (λ (x : List Spot) (y : List Spot). x ++ y) (sym (list_of vs k d h is)) own)
      | inr other ↦
          ap (λ (l : List (List Spot)). get_or l j []) all ∙ get_or-set_other (lists_in vs) k j (spots v.items) [] other
          ∙ sym (append-nil (list_at vs j)) ∙ ap (λ (l : List Spot). list_at vs j ++ l) (sym (viewed_other p s i j there low (λ g. other (omega arith))))
    ]

-- ---- the rows of a span

pub record ShownTo (p : Part) (s a n : ℕ) (old new : List (Vec Span Global)) : Type 0 where
  pub many : length new ≡ length old
  pub views : (i : ℕ) → a ≤ i → i < a + n → HoldsView (length old) p i
  pub lists : (j : ℕ) → list_at new j ≡ list_at old j ++ flat_map (viewed_item j p s) (range_with_len a n)

pub shown_none : (p : Part) (s a n : ℕ) (vs : List (Vec Span Global)) → n ≡ 0 → ShownTo p s a n vs vs
shown_none p s a n vs none = record {
  many = refl;
  views = λ i h l. absurd (omega arith);
  lists = λ j. sym (append-nil (list_at vs j)) ∙ ap (λ m. list_at vs j ++ flat_map (viewed_item j p s) (range_with_len a m)) (sym none);
}

pub shown_more : (p : Part) (s a n m i : ℕ) (old new more : List (Vec Span Global)) → n + 1 ≡ m → a + n ≡ i → length more ≡ length new → HoldsView (length old) p i → ((j : ℕ) → list_at more j ≡ list_at new j ++ viewed_item j p s i)
    → ShownTo p s a n old new → ShownTo p s a m old more
shown_more p s a n m i old new more e f many view pushed t = record {
  many = many ∙ t.many;
  views = λ k h l. elim (cases_eq k i) as (λ _. HoldsView (length old) p k) [
    | inl same ↦ subst (HoldsView (length old) p) (sym same) view
    | inr other ↦ t.views k h (omega arith)
  ];
  lists = λ j.
      let g = viewed_item j p s in
      let all : flat_map g (range_with_len a m) ≡ flat_map g (range_with_len a n) ++ g i =
      ap (λ k. flat_map g (range_with_len a k)) (sym e) ∙ ap (flat_map g) (range_more a n)
      ∙ sym (flat_map_more g [] (range_with_len a n) (a + n)) ∙ ap (λ (k : ℕ). flat_map g (range_with_len a n) ++ g k) f in
      pushed j ∙ ap (λ (l : List Spot). l ++ g i) (t.lists j) ∙ append_assoc (list_at old j) (flat_map g (range_with_len a n)) (g i)
      ∙ ap (λ (l : List Spot). list_at old j ++ l) (sym all);
}

-- a null shows none
pub shown_null : (p : Part) (s i : ℕ) (vs more : List (Vec Span Global)) → more ≡ vs → is_valid p.valid i ≡ false → (j : ℕ) → list_at more j ≡ list_at vs j ++ viewed_item j p s i
shown_null p s i vs more e none j =
    ap (λ (l : List (Vec Span Global)). list_at l j) e ∙ sym (append-nil (list_at vs j)) ∙ ap (λ (l : List Spot). list_at vs j ++ l) (sym (viewed_null p s i j none))

pub null_view : (n : ℕ) (p : Part) (i : ℕ) → 16 * i + 16 ≤ length p.values → is_valid p.valid i ≡ false → HoldsView n p i
null_view n p i h none = record {
  held = h;
  small = λ e. absurd (let f : false ≡ true = sym none ∙ e in cc);
  buffer = λ e l. absurd (let f : false ≡ true = sym none ∙ e in cc);
}

-- ---- empty lists

pub lists_empty : (vs : List (Vec Span Global)) (v : Vec Span Global) (j : ℕ) → v.items ≡ [] → ((i : ℕ) → list_at vs i ≡ []) → list_at (vs ++ v ∷ []) j ≡ []
lists_empty [] v zero e h = bare_spots v.items e
lists_empty [] v (suc j) e h = refl
lists_empty (x ∷ vs) v zero e h = h 0
lists_empty (x ∷ vs) v (suc j) e h = lists_empty vs v j e (λ i. h (suc i))

-- ---- the rows of several nodes

pub viewed_append : (ps : List Part) (xs ys : List Spot) (j : ℕ) → viewed_items ps (xs ++ ys) j ≡ viewed_items ps xs j ++ viewed_items ps ys j
unfolding viewed_items
viewed_append ps xs ys j = flat_map-append (row_viewed_item j ps) xs ys

pub viewed_none : (ps : List Part) (ss : List Spot) (j : ℕ) → ss ≡ [] → viewed_items ps ss j ≡ []
unfolding viewed_items
viewed_none ps ss j e = ap (flat_map (row_viewed_item j ps)) e

pub viewed_run : (ps : List Part) (p : Part) (s a n j : ℕ) → part_at ps s ≡ p → viewed_items ps (run_of s a n) j ≡ flat_map (viewed_item j p s) (range_with_len a n)
unfolding viewed_items
viewed_run ps p s a n j e = flat_map-map (row_viewed_item j ps) (spot s) (range_with_len a n) ∙ ap (λ (q : Part). flat_map (viewed_item j q s) (range_with_len a n)) e

-- the lists of what rows show, each of which holds a view
pub record ListsTo (n : ℕ) (ps : List Part) (ss : List Spot) (vs : List (Vec Span Global)) : Type 0 where
  pub many : length vs ≡ n
  pub views : Each (λ (s : Spot). HoldsView n (part_at ps s.source) s.row) ss
  pub lists : (j : ℕ) → list_at vs j ≡ viewed_items ps ss j

pub lists_none : (n : ℕ) (ps : List Part) (ss : List Spot) (vs : List (Vec Span Global)) → ss ≡ [] → length vs ≡ n → ((j : ℕ) → list_at vs j ≡ []) → ListsTo n ps ss vs
lists_none n ps ss vs e many h = record { many = many; views = each_none _ ss e; lists = λ j. h j ∙ sym (viewed_none ps ss j e) }

pub lists_same : (n : ℕ) (ps : List Part) (ss more : List Spot) (vs new : List (Vec Span Global)) → more ≡ ss → new ≡ vs → ListsTo n ps ss vs → ListsTo n ps more new
lists_same n ps ss more vs new e f t = subst (λ (l : List Spot). ListsTo n ps l new) (sym e) (subst (λ (l : List (Vec Span Global)). ListsTo n ps ss l) (sym f) t)

pub lists_more : (n : ℕ) (ps : List Part) (p : Part) (ss more : List Spot) (s a m : ℕ) (vs new : List (Vec Span Global)) → more ≡ ss ++ run_of s a m → part_at ps s ≡ p → ShownTo p s a m vs new → ListsTo n ps ss vs → ListsTo n ps more new
lists_more n ps p ss more s a m vs new e at r t =
    let H = λ (x : Spot). HoldsView n (part_at ps x.source) x.row in
    record {
      many = r.many ∙ t.many;
      views = each_append H ss (run_of s a m) more e t.views
          (each_run H s a m (λ i h l. subst (λ (q : Part). HoldsView n q i) (sym at) (subst (λ (k : ℕ). HoldsView k p i) t.many (r.views i h l))));
      lists = λ j. r.lists j ∙ ap₂ (λ (x : List Spot) (y : List Spot). x ++ y) (t.lists j) (sym (viewed_run ps p s a m j at))
          ∙ sym (viewed_append ps ss (run_of s a m) j) ∙ ap (λ (l : List Spot). viewed_items ps l j) (sym e);
    }

pub all_lists : (n : ℕ) (ps : List Part) (ss all : List Spot) (vs : List (Vec Span Global)) → ss ≡ all → ListsTo n ps ss vs → lists_in vs ≡ map (viewed_items ps all) (range_with_len 0 n)
all_lists n ps ss all vs e t =
    let f = λ (x : Vec Span Global). spots x.items in
    let many : length (lists_in vs) ≡ n = length-map vs f ∙ t.many in
    ext_get_or [] (lists_in vs) (map (viewed_items ps all) (range_with_len 0 n)) (many ∙ sym (length-map-range_with_len (viewed_items ps all) 0 n)) (λ j h.
    let low : j < n = omega (arith, many) in
    t.lists j ∙ ap (λ (l : List Spot). viewed_items ps l j) e ∙ sym (get_or-map-range_with_len (viewed_items ps all) 0 n j j [] low (omega arith)))

pub show_views : (n : ℕ) (ps : List Part) (ss all : List Spot) (vs : List (Vec Span Global)) → ss ≡ all → ((j : ℕ) → j < length vs → length (list_at vs j) < 2 ^ 31) → ListsTo n ps ss vs → ShowViews n ps all
show_views n ps ss all vs e few t = record {
  views = λ k h. (subst (Each (λ (s : Spot). HoldsView n (part_at ps s.source) s.row)) e t.views).at k h;
  few = λ j h. let low = few j (omega (arith, t.many)) in omega (arith, low, ap length (t.lists j ∙ ap (λ (l : List Spot). viewed_items ps l j) e));
}
