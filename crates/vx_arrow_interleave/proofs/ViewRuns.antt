-- The items of list views.
use Rattle.std.proofs.Common.{◌≡◌, ℕ, ◌+◌, ◌-◌, ◌*◌, ◌<◌, ◌≤◌, Bool, true, false, cond, List, [], ◌++◌, length, get_or, take, ap, sym, ◌∙◌, refl, subst, arith, length-append, lit<}
use Rattle.std.specs.List.{flat_map, range_with_len}
use Rattle.std.proofs.Math.Nat.{mul-le-mul_left}
use Rattle.std.proofs.lemmas.Bool.{leb-true}
use Rattle.std.proofs.lemmas.List.Concat.{flat_map-append}
use Rattle.std.proofs.lemmas.List.Folds.{flat_map-map}
use Rattle.vx_arrow_image.specs.declared.format.Offsets.{Offsets}
use Rattle.vx_arrow_image.specs.declared.format.Offsets.TheVariants.{Short, Long}
use Rattle.vx_arrow_image.specs.Image.{Part, holds_starts, is_valid, limit_of, offset_at, size_of}
use Rattle.vx_arrow_interleave.specs.declared.spans.Span.{Span}
use Rattle.vx_arrow_interleave.specs.Given.{row_view_items, view_items, view_items_at}
use Rattle.vx_arrow_interleave.specs.Sources.{part_at}
use Rattle.vx_arrow_interleave.specs.Spots.{Spot, run_of, span_spots, spot, spot_at, spots}
use Rattle.vx_arrow_interleave.specs.Views.{AreSizes, AreStarts, HoldSizes, HoldStarts, view_size}
use Rattle.vx_arrow_interleave.proofs.RowRuns.{NumbersTo, PushedTo, all_numbers, made_up_to, made_within, sum_of}
use Rattle.vx_arrow_interleave.proofs.SourceRows.{Each, each_append, each_none, each_run}
use Rattle.vx_arrow_interleave.proofs.SpotLists.{in_span, no_span, run_len, spot_at_in_span, spots_none, spots_same, spots_take}

limit_some : (z : Offsets) → 0 < limit_of z
limit_some Short = lit< tt
limit_some Long = lit< tt

-- ---- one row

-- a null has none, as one of no items
pub view_run : (z : Offsets) (p : Part) (s i : ℕ) → view_items_at z p s i ≡ run_of s (offset_at z p.offsets i) (view_size z p i)
view_run z p s i = go (is_valid p.valid i)
  where
    go : (b : Bool) → cond b (run_of s (offset_at z p.offsets i) (offset_at z p.sizes i)) [] ≡ run_of s (offset_at z p.offsets i) (cond b (offset_at z p.sizes i) 0)
    go true = refl
    go false = refl

pub view_len : (z : Offsets) (p : Part) (s i : ℕ) → length (view_items_at z p s i) ≡ view_size z p i
view_len z p s i = ap length (view_run z p s i) ∙ run_len s (offset_at z p.offsets i) (view_size z p i)

-- ---- rows of one source that follow one another

pub views_run : (z : Offsets) (ps : List Part) (p : Part) (s a n : ℕ) → part_at ps s ≡ p → flat_map (row_view_items z ps) (run_of s a n) ≡ flat_map (view_items_at z p s) (range_with_len a n)
views_run z ps p s a n e = flat_map-map (row_view_items z ps) (spot s) (range_with_len a n) ∙ ap (λ (q : Part). flat_map (view_items_at z q s) (range_with_len a n)) e

-- numbers up to an end are there for each row before it
number_there : (z : Offsets) (i end : ℕ) (numbers : List ℕ) → holds_starts z numbers end ≡ true → i < end → size_of z * (i + 1) ≤ length numbers
number_there z i end numbers h low = let next : i + 1 ≤ end = omega arith in omega (arith, mul-le-mul_left (size_of z) next, leb-true _ _ h)

-- ---- rows of several

-- the items of rows, counted; each row has a start and a size
pub record ViewsTo (z : Offsets) (ps : List Part) (ss : List Spot) (total : ℕ) (list : List Spot) : Type 0 where
  pub listed : list ≡ view_items z ps ss
  pub counted : total ≡ length (view_items z ps ss)
  pub small : total < limit_of z
  pub starts : Each (λ (s : Spot). size_of z * (s.row + 1) ≤ length (part_at ps s.source).offsets) ss
  pub sizes : Each (λ (s : Spot). size_of z * (s.row + 1) ≤ length (part_at ps s.source).sizes) ss

pub no_views : (z : Offsets) (ps : List Part) (ss : List Spot) (list : List Spot) → ss ≡ [] → list ≡ [] → ViewsTo z ps ss 0 list
unfolding view_items
no_views z ps ss list e bare =
    let none : flat_map (row_view_items z ps) ss ≡ [] = ap (flat_map (row_view_items z ps)) e in
    record {
      listed = bare ∙ sym none;
      counted = sym (ap length none);
      small = limit_some z;
      starts = each_none _ ss e;
      sizes = each_none _ ss e;
    }

pub as_views : (z : Offsets) (ps : List Part) (ss more : List Spot) (total after : ℕ) (list new : List Spot) → more ≡ ss → after ≡ total → new ≡ list → ViewsTo z ps ss total list → ViewsTo z ps more after new
as_views z ps ss more total after list new e f g t =
    subst (λ (l : List Spot). ViewsTo z ps l after new) (sym e) (subst (λ (n : ℕ). ViewsTo z ps ss n new) (sym f) (subst (λ (l : List Spot). ViewsTo z ps ss total l) (sym g) t))

pub more_views : (z : Offsets) (ps : List Part) (p : Part) (ss more : List Spot) (s a n total after : ℕ) (list new : List Spot) → more ≡ ss ++ run_of s a n → part_at ps s ≡ p → holds_starts z p.offsets (a + n) ≡ true → holds_starts z p.sizes (a + n) ≡ true
    → PushedTo (view_items_at z p s) (limit_of z) a n total after list new → ViewsTo z ps ss total list → ViewsTo z ps more after new
unfolding view_items
more_views z ps p ss more s a n total after list new e at starts sizes r t =
    let own = flat_map (view_items_at z p s) (range_with_len a n) in
    let all : flat_map (row_view_items z ps) more ≡ flat_map (row_view_items z ps) ss ++ own =
    ap (flat_map (row_view_items z ps)) e ∙ flat_map-append (row_view_items z ps) ss (run_of s a n) ∙ ap (λ (l : List Spot). flat_map (row_view_items z ps) ss ++ l) (views_run z ps p s a n at) in
    let S = λ (x : Spot). size_of z * (x.row + 1) ≤ length (part_at ps x.source).offsets in
    let L = λ (x : Spot). size_of z * (x.row + 1) ≤ length (part_at ps x.source).sizes in
    record {
      listed = r.items ∙ ap (λ (l : List Spot). l ++ own) t.listed ∙ sym all;
      counted = omega (arith, r.counted, t.counted, ap length all, length-append (flat_map (row_view_items z ps) ss) own);
      small = r.small;
      starts = each_append S ss (run_of s a n) more e t.starts (each_run S s a n (λ i h l. subst (λ (q : Part). size_of z * (i + 1) ≤ length q.offsets) (sym at) (number_there z i (a + n) p.offsets starts l)));
      sizes = each_append L ss (run_of s a n) more e t.sizes (each_run L s a n (λ i h l. subst (λ (q : Part). size_of z * (i + 1) ≤ length q.sizes) (sym at) (number_there z i (a + n) p.sizes sizes l)));
    }

pub held_starts : (z : Offsets) (ps : List Part) (ss : List Spot) (total : ℕ) (list : List Spot) → ViewsTo z ps ss total list → HoldStarts z ps ss
held_starts z ps ss total list t = record { held = λ k h. t.starts.at k h }

pub held_sizes : (z : Offsets) (ps : List Part) (ss : List Spot) (total : ℕ) (list : List Spot) → ViewsTo z ps ss total list → HoldSizes z ps ss
held_sizes z ps ss total list t = record { held = λ k h. t.sizes.at k h }

-- ---- where they begin, and how many they are

-- sizes are there for the rows of span k
pub span_sizes : (z : Offsets) (ps : List Part) (ss : List Span) (k : ℕ) (r : Span) (p : Part) → k < length ss → r ≡ get_or ss k no_span → 0 < r.len → part_at ps r.source ≡ p → HoldSizes z ps (spots ss) → size_of z * (r.start + r.len) ≤ length p.sizes
span_sizes z ps ss k r p h e some at held =
    let last : r.len - 1 < r.len = omega arith in
    let end : r.start + (r.len - 1) + 1 ≡ r.start + r.len = omega arith in
    let own = in_span (λ (s : Spot). size_of z * (s.row + 1) ≤ length (part_at ps s.source).sizes) ss k (r.len - 1) r h e last held.held in
    subst (λ (q : Part). size_of z * (r.start + r.len) ≤ length q.sizes) at (subst (λ (n : ℕ). size_of z * n ≤ length (part_at ps r.source).sizes) end own)

-- the items of the first k spans, and of i rows more
pub views_up_to : (z : Offsets) (ps : List Part) (ss : List Span) (k i : ℕ) (r : Span) (p : Part) → k < length ss → r ≡ get_or ss k no_span → i ≤ r.len → part_at ps r.source ≡ p
    → length (view_items z ps (take (length (spots (take k ss)) + i) (spots ss))) ≡ length (view_items z ps (spots (take k ss))) + sum_of (view_items_at z p r.source) r.start i
unfolding view_items
views_up_to z ps ss k i r p h e low at =
    ap length (made_up_to (row_view_items z ps) ss k i r h e low)
    ∙ length-append (flat_map (row_view_items z ps) (spots (take k ss))) (flat_map (row_view_items z ps) (run_of r.source r.start i))
    ∙ ap (λ (l : List Spot). length (flat_map (row_view_items z ps) (spots (take k ss))) + length l) (views_run z ps p r.source r.start i at)

pub views_more : (z : Offsets) (ps : List Part) (ss : List Span) (k : ℕ) (r : Span) (p : Part) → k < length ss → r ≡ get_or ss k no_span → part_at ps r.source ≡ p
    → length (view_items z ps (spots (take (k + 1) ss))) ≡ length (view_items z ps (spots (take k ss))) + sum_of (view_items_at z p r.source) r.start r.len
unfolding view_items
views_more z ps ss k r p h e at =
    ap (λ (l : List Spot). length (flat_map (row_view_items z ps) l)) (spots_take ss k r h e)
    ∙ ap length (flat_map-append (row_view_items z ps) (spots (take k ss)) (span_spots r))
    ∙ length-append (flat_map (row_view_items z ps) (spots (take k ss))) (flat_map (row_view_items z ps) (span_spots r))
    ∙ ap (λ (l : List Spot). length (flat_map (row_view_items z ps) (spots (take k ss))) + length l) (views_run z ps p r.source r.start r.len at)

-- those of the next span are some of all
pub views_within : (z : Offsets) (ps : List Part) (ss : List Span) (k : ℕ) (r : Span) (p : Part) → k < length ss → r ≡ get_or ss k no_span → part_at ps r.source ≡ p
    → length (view_items z ps (spots (take k ss))) + sum_of (view_items_at z p r.source) r.start r.len ≤ length (view_items z ps (spots ss))
unfolding view_items
views_within z ps ss k r p h e at = omega (arith, views_more z ps ss k r p h e at, made_within (row_view_items z ps) ss (k + 1))

-- row j begins behind the items of those before it
abbrev pub start_by : Offsets → List Part → List Span → ℕ → ℕ
start_by z ps ss j = length (view_items z ps (take j (spots ss)))

abbrev pub size_by : Offsets → List Part → List Span → ℕ → ℕ
size_by z ps ss j = length (row_view_items z ps (spot_at (spots ss) j))

-- the starts of the first k spans' rows, which have `total` items
pub record StartsTo (z : Offsets) (ps : List Part) (ss : List Span) (k first total : ℕ) (out : List ℕ) : Type 0 where
  pub numbers : NumbersTo z (start_by z ps ss) ss k first out
  pub total_is : total ≡ length (view_items z ps (spots (take k ss)))

pub no_total : (z : Offsets) (ps : List Part) (ss : List Span) → 0 ≡ length (view_items z ps (spots (take 0 ss)))
unfolding view_items
no_total z ps ss = ap (λ (l : List Spot). length (flat_map (row_view_items z ps) l)) (sym (spots_none ss))

pub run_starts : (z : Offsets) (ps : List Part) (ss : List Span) (k first total : ℕ) (r : Span) (p : Part) (out : List ℕ) → k < length ss → r ≡ get_or ss k no_span → part_at ps r.source ≡ p → StartsTo z ps ss k first total out
    → (i : ℕ) → i < r.len → total + sum_of (view_items_at z p r.source) r.start i ≡ start_by z ps ss (first + i)
run_starts z ps ss k first total r p out h e at t i low =
    ap (λ n. n + sum_of (view_items_at z p r.source) r.start i) t.total_is
    ∙ sym (views_up_to z ps ss k i r p h e (omega arith) at)
    ∙ ap (λ n. start_by z ps ss (n + i)) (sym t.numbers.first_is)

pub run_sizes : (z : Offsets) (ps : List Part) (ss : List Span) (k first : ℕ) (r : Span) (p : Part) (out : List ℕ) → k < length ss → r ≡ get_or ss k no_span → part_at ps r.source ≡ p → NumbersTo z (size_by z ps ss) ss k first out
    → (i : ℕ) → i < r.len → length (view_items_at z p r.source (r.start + i)) ≡ size_by z ps ss (first + i)
run_sizes z ps ss k first r p out h e at t i low =
    ap (λ (q : Part). length (view_items_at z q r.source (r.start + i))) (sym at)
    ∙ ap (λ (s : Spot). length (row_view_items z ps s)) (sym (spot_at_in_span ss k i r h e low))
    ∙ ap (λ n. size_by z ps ss (n + i)) (sym t.first_is)

pub same_total : (z : Offsets) (ps : List Part) (ss : List Span) (k total : ℕ) (r : Span) → k < length ss → r ≡ get_or ss k no_span → r.len ≡ 0 → total ≡ length (view_items z ps (spots (take k ss))) → total ≡ length (view_items z ps (spots (take (k + 1) ss)))
same_total z ps ss k total r h e none is = is ∙ ap (λ (l : List Spot). length (view_items z ps l)) (sym (spots_same ss k r h e none))

pub all_starts : (z : Offsets) (ps : List Part) (ss : List Span) (k first total : ℕ) (out : List ℕ) → length ss ≤ k → StartsTo z ps ss k first total out → AreStarts z ps (spots ss) out
all_starts z ps ss k first total out h t = record { starts = λ j low. all_numbers z (start_by z ps ss) ss k first out h t.numbers j low }

pub all_sizes : (z : Offsets) (ps : List Part) (ss : List Span) (k first : ℕ) (out : List ℕ) → length ss ≤ k → NumbersTo z (size_by z ps ss) ss k first out → AreSizes z ps (spots ss) out
all_sizes z ps ss k first out h t = record { sizes = λ j low. all_numbers z (size_by z ps ss) ss k first out h t j low }
