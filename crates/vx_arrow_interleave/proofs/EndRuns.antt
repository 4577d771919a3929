-- Where the items of the rows of one span end, and those of one span more.
use Rattle.std.proofs.Common.{◌≡◌, ℕ, ◌+◌, ◌-◌, ◌<◌, ◌≤◌, zero, suc, true, false, List, [], ◌++◌, length, get_or, take, drop, ap, ap₂, sym, ◌∙◌, refl, subst, inl, inr, arith, length-append}
use Rattle.std.specs.List.{flat_map, range_with_len}
use Rattle.std.proofs.lemmas.Bool.{cases_eq, cases_lt, cond-false, cond-true}
use Rattle.std.proofs.lemmas.List.{flat_map_more, take-append-drop}
use Rattle.std.proofs.lemmas.List.Concat.{flat_map-append}
use Rattle.std.proofs.lemmas.List.Folds.{flat_map-map}
use Rattle.vx_runs.proofs.RunPlaces.{range_more}
use Rattle.vx_arrow_image.specs.declared.format.Offsets.{Offsets}
use Rattle.vx_arrow_image.specs.Image.{Part, is_valid, offset_at}
use Rattle.vx_arrow_columns.specs.Written.{PutsOffset}
use Rattle.vx_arrow_interleave.specs.declared.spans.Span.{Span}
use Rattle.vx_arrow_interleave.specs.Bytes.{AreOffsets}
use Rattle.vx_arrow_interleave.specs.Given.{items, items_at, row_items}
use Rattle.vx_arrow_interleave.specs.Sources.{part_at}
use Rattle.vx_arrow_interleave.specs.Spots.{Spot, run_of, span_spots, spot, spots}
use Rattle.vx_arrow_interleave.proofs.SpotLists.{no_span, run_len, spots_all, spots_join, spots_len, spots_none, spots_same, spots_take, spots_up_to}

-- ---- the items of rows of one source that follow one another

-- how many they are
abbrev pub count : Offsets → Part → ℕ → ℕ → ℕ → ℕ
count z p s a n = length (flat_map (items_at z p s) (range_with_len a n))

pub count_more : (z : Offsets) (p : Part) (s a n : ℕ) → count z p s a (n + 1) ≡ count z p s a n + length (items_at z p s (a + n))
count_more z p s a n =
    ap (λ l. length (flat_map (items_at z p s) l)) (range_more a n (a + n) refl)
    ∙ ap length (sym (flat_map_more (items_at z p s) [] (range_with_len a n) (a + n)))
    ∙ length-append (flat_map (items_at z p s) (range_with_len a n)) (items_at z p s (a + n))

count_up : (z : Offsets) (p : Part) (s a n d : ℕ) → count z p s a n ≤ count z p s a (n + d)
count_up z p s a n zero = let e : n ≡ n + 0 = omega arith in omega (arith, ap (count z p s a) e)
count_up z p s a n (suc d) =
    let e : n + d + 1 ≡ n + suc d = omega arith in
    omega (arith, count_up z p s a n d, count_more z p s a (n + d), ap (count z p s a) e)

pub count_within : (z : Offsets) (p : Part) (s a n m : ℕ) → n ≤ m → count z p s a n ≤ count z p s a m
count_within z p s a n m h = let e : n + (m - n) ≡ m = omega arith in omega (arith, count_up z p s a n (m - n), ap (count z p s a) e)

pub count_there : (z : Offsets) (p : Part) (s i : ℕ) → is_valid p.valid i ≡ true → length (items_at z p s i) ≡ offset_at z p.offsets (i + 1) - offset_at z p.offsets i
count_there z p s i there =
    let n = offset_at z p.offsets (i + 1) - offset_at z p.offsets i in
    ap length (cond-true (is_valid p.valid i) (run_of s (offset_at z p.offsets i) n) [] there) ∙ run_len s (offset_at z p.offsets i) n

pub count_none : (z : Offsets) (p : Part) (s i : ℕ) → is_valid p.valid i ≡ false → length (items_at z p s i) ≡ 0
count_none z p s i none =
    ap length (cond-false (is_valid p.valid i) (run_of s (offset_at z p.offsets i) (offset_at z p.offsets (i + 1) - offset_at z p.offsets i)) [] none)

-- ---- where they end

-- the ends of the first n rows that have numbers from `first` on, where `total` items stand before them
pub record EndsTo (z : Offsets) (p : Part) (s a first total n sum : ℕ) (old out : List ℕ) : Type 0 where
  pub sum_is : sum ≡ total + count z p s a n
  pub ends : (i : ℕ) → i ≤ n → offset_at z out (first + i) ≡ total + count z p s a i
  pub before : (j : ℕ) → j < first → offset_at z out j ≡ offset_at z old j

pub no_ends : (z : Offsets) (p : Part) (s a first total : ℕ) (out : List ℕ) → offset_at z out first ≡ total → EndsTo z p s a first total 0 total out out
no_ends z p s a first total out e =
    let none : total ≡ total + 0 = omega arith in
    record {
      sum_is = none;
      ends = λ i h.
          let here : first + i ≡ first = omega arith in
          let nought : 0 ≡ i = omega arith in
          ap (offset_at z out) here ∙ e ∙ none ∙ ap (λ n. total + count z p s a n) nought;
      before = λ j h. refl;
    }

pub more_ends : (z : Offsets) (p : Part) (s a first total n sum : ℕ) (old out new : List ℕ) (next : ℕ) → next ≡ sum + length (items_at z p s (a + n)) → PutsOffset z out new (first + n + 1) next
    → EndsTo z p s a first total n sum old out → EndsTo z p s a first total (n + 1) next old new
more_ends z p s a first total n sum old out new next step put t =
    let is : next ≡ total + count z p s a (n + 1) = omega (arith, t.sum_is, count_more z p s a n) in
    record {
      sum_is = is;
      ends = λ i h. elim (cases_eq i (n + 1)) as (λ _. offset_at z new (first + i) ≡ total + count z p s a i) [
        | inl same ↦
            let here : first + i ≡ first + n + 1 = omega arith in
            ap (offset_at z new) here ∙ put.put ∙ is ∙ ap (λ m. total + count z p s a m) (sym same)
        | inr other ↦ put.before (first + i) (omega arith) ∙ t.ends i (omega arith)
      ];
      before = λ j h. put.before j (omega arith) ∙ t.before j h;
    }

-- ---- the rows of spans

abbrev pub counted : Offsets → List Part → List Spot → ℕ
counted z ps ss = length (items z ps ss)

-- the items of rows of one source that follow one another are those of its rows
pub run_items : (z : Offsets) (ps : List Part) (s a n : ℕ) → flat_map (row_items z ps) (run_of s a n) ≡ flat_map (items_at z (part_at ps s) s) (range_with_len a n)
run_items z ps s a n = flat_map-map (row_items z ps) (spot s) (range_with_len a n)

counted_join : (z : Offsets) (ps : List Part) (xs ys : List Spot) → counted z ps (xs ++ ys) ≡ counted z ps xs + counted z ps ys
unfolding items
counted_join z ps xs ys = ap length (flat_map-append (row_items z ps) xs ys) ∙ length-append (flat_map (row_items z ps) xs) (flat_map (row_items z ps) ys)

counted_run : (z : Offsets) (ps : List Part) (s a n : ℕ) → counted z ps (run_of s a n) ≡ count z (part_at ps s) s a n
unfolding items
counted_run z ps s a n = ap length (run_items z ps s a n)

pub counted_up_to : (z : Offsets) (ps : List Part) (ss : List Span) (k i : ℕ) (r : Span) → k < length ss → r ≡ get_or ss k no_span → i ≤ r.len
    → counted z ps (take (length (spots (take k ss)) + i) (spots ss)) ≡ counted z ps (spots (take k ss)) + count z (part_at ps r.source) r.source r.start i
counted_up_to z ps ss k i r h e low =
    ap (counted z ps) (spots_up_to ss k i r h e low) ∙ counted_join z ps (spots (take k ss)) (run_of r.source r.start i)
    ∙ ap (λ n. counted z ps (spots (take k ss)) + n) (counted_run z ps r.source r.start i)

pub counted_more : (z : Offsets) (ps : List Part) (ss : List Span) (k : ℕ) (r : Span) → k < length ss → r ≡ get_or ss k no_span
    → counted z ps (spots (take (k + 1) ss)) ≡ counted z ps (spots (take k ss)) + count z (part_at ps r.source) r.source r.start r.len
counted_more z ps ss k r h e =
    ap (counted z ps) (spots_take ss k r h e) ∙ counted_join z ps (spots (take k ss)) (span_spots r)
    ∙ ap (λ n. counted z ps (spots (take k ss)) + n) (counted_run z ps r.source r.start r.len)

-- those of the first spans are some of all
pub counted_within : (z : Offsets) (ps : List Part) (ss : List Span) (k : ℕ) → counted z ps (spots (take k ss)) ≤ counted z ps (spots ss)
counted_within z ps ss k =
    omega (arith, ap (counted z ps) (sym (spots_join (take k ss) (drop k ss)) ∙ ap spots (take-append-drop k ss)), counted_join z ps (spots (take k ss)) (spots (drop k ss)))

-- the first k spans' rows, which are `first`, have `total` items, and the offsets say where these end
pub record OffsetsTo (z : Offsets) (ps : List Part) (ss : List Span) (k first total : ℕ) (out : List ℕ) : Type 0 where
  pub first_is : first ≡ length (spots (take k ss))
  pub total_is : total ≡ counted z ps (spots (take k ss))
  pub ends : (j : ℕ) → j ≤ first → offset_at z out j ≡ counted z ps (take j (spots ss))

pub no_offsets : (z : Offsets) (ps : List Part) (ss : List Span) (old out : List ℕ) → PutsOffset z old out 0 0 → OffsetsTo z ps ss 0 0 0 out
unfolding items
no_offsets z ps ss old out put =
    record {
      first_is = ap length (sym (spots_none ss));
      total_is = ap (counted z ps) (sym (spots_none ss));
      ends = λ j h. let none : j ≡ 0 = omega arith in ap (offset_at z out) none ∙ put.put ∙ ap (λ n. counted z ps (take n (spots ss))) (sym none);
    }

pub more_offsets : (z : Offsets) (ps : List Part) (ss : List Span) (k first total : ℕ) (r : Span) (p : Part) (sum : ℕ) (out new : List ℕ) → k < length ss → r ≡ get_or ss k no_span → p ≡ part_at ps r.source
    → EndsTo z p r.source r.start first total r.len sum out new → OffsetsTo z ps ss k first total out → OffsetsTo z ps ss (k + 1) (first + r.len) sum new
more_offsets z ps ss k first total r p sum out new h e own put t =
    let q = part_at ps r.source in
    record {
      first_is = ap (λ n. n + r.len) t.first_is ∙ sym (spots_len ss k r h e);
      total_is = put.sum_is ∙ ap₂ (λ (n : ℕ) (o : Part). n + count z o r.source r.start r.len) t.total_is own ∙ sym (counted_more z ps ss k r h e);
      ends = λ j below. elim (cases_lt j first) as (λ _. offset_at z new j ≡ counted z ps (take j (spots ss))) [
        | inl low ↦ put.before j low ∙ t.ends j (omega arith)
        | inr high ↦
            let i = j - first in
            let here : first + i ≡ j = omega arith in
            let within : i ≤ r.len = omega arith in
            ap (offset_at z new) (sym here) ∙ put.ends i within
            ∙ ap₂ (λ (n : ℕ) (o : Part). n + count z o r.source r.start i) t.total_is own
            ∙ sym (counted_up_to z ps ss k i r h e within)
            ∙ ap (λ n. counted z ps (take n (spots ss))) (ap (λ n. n + i) (sym t.first_is) ∙ here)
      ];
    }

-- the next span's items can be counted
pub span_counted : (z : Offsets) (ps : List Part) (ss : List Span) (k first total : ℕ) (r : Span) (p : Part) (out : List ℕ) → k < length ss → r ≡ get_or ss k no_span → p ≡ part_at ps r.source → OffsetsTo z ps ss k first total out
    → total + count z p r.source r.start r.len ≤ counted z ps (spots ss)
span_counted z ps ss k first total r p out h e own t =
    omega (arith, t.total_is, ap (λ (o : Part). count z o r.source r.start r.len) own, counted_more z ps ss k r h e, counted_within z ps ss (k + 1))

-- the last offset says how many there are so far
pub at_end : (z : Offsets) (ps : List Part) (ss : List Span) (k first total : ℕ) (out : List ℕ) (r : Span) → k < length ss → r ≡ get_or ss k no_span → OffsetsTo z ps ss k first total out → offset_at z out first ≡ total
at_end z ps ss k first total out r h e t =
    let none : length (spots (take k ss)) + 0 ≡ length (spots (take k ss)) = omega arith in
    t.ends first (omega arith)
    ∙ ap (λ n. counted z ps (take n (spots ss))) (t.first_is ∙ sym none)
    ∙ counted_up_to z ps ss k 0 r h e (omega arith)
    ∙ (let m : counted z ps (spots (take k ss)) + 0 ≡ counted z ps (spots (take k ss)) = omega arith in m)
    ∙ sym t.total_is

-- a span of no rows changes nothing
pub same_offsets : (z : Offsets) (ps : List Part) (ss : List Span) (k first total : ℕ) (r : Span) (out : List ℕ) → k < length ss → r ≡ get_or ss k no_span → r.len ≡ 0 → OffsetsTo z ps ss k first total out → OffsetsTo z ps ss (k + 1) first total out
same_offsets z ps ss k first total r out h e none t =
    let same = spots_same ss k r h e none in
    record { first_is = t.first_is ∙ ap length (sym same); total_is = t.total_is ∙ ap (counted z ps) (sym same); ends = t.ends }

pub as_offsets : (z : Offsets) (ps : List Part) (ss : List Span) (k first total now sum : ℕ) (out new : List ℕ) → now ≡ first → sum ≡ total → new ≡ out → OffsetsTo z ps ss k first total out → OffsetsTo z ps ss k now sum new
as_offsets z ps ss k first total now sum out new e f g t =
    subst (λ (n : ℕ). OffsetsTo z ps ss k n sum new) (sym e) (subst (λ (n : ℕ). OffsetsTo z ps ss k first n new) (sym f) (subst (λ (l : List ℕ). OffsetsTo z ps ss k first total l) (sym g) t))

pub all_offsets : (z : Offsets) (ps : List Part) (ss : List Span) (k first total : ℕ) (out : List ℕ) → length ss ≤ k → OffsetsTo z ps ss k first total out → AreOffsets z ps (spots ss) out
all_offsets z ps ss k first total out h t =
    let all : first ≡ length (spots ss) = t.first_is ∙ ap length (spots_all ss k h) in
    record { ends = λ j below. t.ends j (omega arith) }
