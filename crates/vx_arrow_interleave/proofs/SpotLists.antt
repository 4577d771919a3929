-- The rows of the first spans, and of one span more.
use Rattle.std.proofs.Common.{◌≡◌, ℕ, ◌+◌, ◌-◌, ◌^◌, ◌<◌, ◌≤◌, zero, suc, List, [], ◌∷◌, ◌++◌, length, get_or, take, drop, ap, ap₂, sym, ◌∙◌, refl, subst, arith, length-append}
use Rattle.std.specs.List.{flat_map}
use Rattle.std.proofs.Math.Seq.{take-append-add}
use Rattle.std.proofs.lemmas.List.{append-nil, flat_map_more, get_or-map, length-map, take-append-drop, take-append-le, take_all, take_more}
use Rattle.std.proofs.lemmas.List.Concat.{flat_map-append, get_or-flat_map}
use Rattle.std.proofs.lemmas.List.Folds.{length-flat_map-take}
use Rattle.std.proofs.lemmas.List.FromFn.{get_or-map-range_with_len, length-map-range_with_len, map-range_with_len_more, take-map-range_with_len}
use Rattle.vx_arrow_image.specs.declared.image.Node.{Node}
use Rattle.vx_arrow_image.specs.Image.{part_of, parts_of, Part}
use Rattle.vx_arrow_columns.proofs.PickReads.{placed_end}
use Rattle.vx_arrow_interleave.specs.declared.spans.Span.{Span}
use Rattle.vx_arrow_interleave.specs.Sources.{AreAlike, ArePlaces, no_part, part_at}
use Rattle.vx_arrow_interleave.specs.Spots.{Spot, run_of, span_spots, spot, spot_at, spots}

abbrev pub no_span : Span
no_span = record { source = 0; start = 0; len = 0 }

abbrev pub no_node : Node
no_node =
    record {
      format = 0;
      width = 0;
      len = 0;
      offset = 0;
      children = 0;
      valid = record { ref_ptr = (0, 0); now = [] };
      offsets = record { ref_ptr = (0, 0); now = [] };
      values = record { ref_ptr = (0, 0); now = [] };
      sizes = record { ref_ptr = (0, 0); now = [] };
    }

-- ---- the rows of one span

pub run_len : (s a n : ℕ) → length (run_of s a n) ≡ n
run_len s a n = length-map-range_with_len (spot s) a n

pub run_at : (s a n i : ℕ) → i < n → spot_at (run_of s a n) i ≡ spot s (a + i)
run_at s a n i h = get_or-map-range_with_len (spot s) a n i (a + i) (spot 0 0) h refl

pub run_more : (s a n j : ℕ) → a + n ≡ j → run_of s a (n + 1) ≡ run_of s a n ++ spot s j ∷ []
run_more s a n j e = map-range_with_len_more (spot s) a n j e

pub run_take : (s a n k : ℕ) → k ≤ n → take k (run_of s a n) ≡ run_of s a k
run_take s a n k h = take-map-range_with_len (spot s) a n k h

pub run_join : (s a n m : ℕ) → run_of s a n ++ run_of s (a + n) m ≡ run_of s a (n + m)
run_join s a zero m = ap₂ (λ (b k : ℕ). run_of s b k) (omega arith) (omega arith)
run_join s a (suc n) m =
    let next : a + suc n ≡ a + 1 + n = omega arith in
    let more : suc (n + m) ≡ suc n + m = omega arith in
    ap (λ b. spot s a ∷ (run_of s (a + 1) n ++ run_of s b m)) next ∙ ap (λ l. spot s a ∷ l) (run_join s (a + 1) n m) ∙ ap (run_of s a) more

-- ---- the rows of spans

pub spots_none : (ss : List Span) → spots (take 0 ss) ≡ []
unfolding spots
spots_none ss = refl

pub one_span : (r : Span) → spots (r ∷ []) ≡ span_spots r
unfolding spots
one_span r = append-nil (span_spots r)

pub spots_join : (xs ys : List Span) → spots (xs ++ ys) ≡ spots xs ++ spots ys
unfolding spots
spots_join xs ys = flat_map-append span_spots xs ys

pub spots_push : (ss new : List Span) (r : Span) → new ≡ ss ++ r ∷ [] → spots new ≡ spots ss ++ span_spots r
unfolding spots
spots_push ss new r e = ap spots e ∙ sym (flat_map_more span_spots [] ss r)

-- those of one span more stand behind the others
pub spots_take : (ss : List Span) (k : ℕ) (r : Span) → k < length ss → r ≡ get_or ss k no_span → spots (take (k + 1) ss) ≡ spots (take k ss) ++ span_spots r
spots_take ss k r h e =
    spots_push (take k ss) (take (k + 1) ss) (get_or ss k no_span) (take_more ss k no_span h)
    ∙ ap (λ (x : Span). spots (take k ss) ++ span_spots x) (sym e)

pub spots_len : (ss : List Span) (k : ℕ) (r : Span) → k < length ss → r ≡ get_or ss k no_span → length (spots (take (k + 1) ss)) ≡ length (spots (take k ss)) + r.len
spots_len ss k r h e =
    ap length (spots_take ss k r h e) ∙ length-append (spots (take k ss)) (span_spots r)
    ∙ ap (λ n. length (spots (take k ss)) + n) (run_len r.source r.start r.len)

-- a span of no rows changes nothing
pub spots_same : (ss : List Span) (k : ℕ) (r : Span) → k < length ss → r ≡ get_or ss k no_span → r.len ≡ 0 → spots (take (k + 1) ss) ≡ spots (take k ss)
spots_same ss k r h e none =
    spots_take ss k r h e ∙ ap (λ n. spots (take k ss) ++ run_of r.source r.start n) none ∙ append-nil (spots (take k ss))

pub spots_all : (ss : List Span) (k : ℕ) → length ss ≤ k → spots (take k ss) ≡ spots ss
spots_all ss k h = ap spots (take_all k ss h)

-- they are among those of all spans
pub spots_within : (ss : List Span) (k : ℕ) (r : Span) → k < length ss → r ≡ get_or ss k no_span → length (spots (take k ss)) + r.len ≤ length (spots ss)
unfolding spots
spots_within ss k r h e =
    let own : length (span_spots (get_or ss k no_span)) ≡ r.len = ap (λ (x : Span). length (span_spots x)) (sym e) ∙ run_len r.source r.start r.len in
    omega (arith, length-flat_map-take span_spots ss k no_span h)

-- row i of span k
pub spot_at_in_span : (ss : List Span) (k i : ℕ) (r : Span) → k < length ss → r ≡ get_or ss k no_span → i < r.len → spot_at (spots ss) (length (spots (take k ss)) + i) ≡ spot r.source (r.start + i)
unfolding spots
spot_at_in_span ss k i r h e low =
    let own : length (span_spots (get_or ss k no_span)) ≡ r.len = ap (λ (x : Span). length (span_spots x)) (sym e) ∙ run_len r.source r.start r.len in
    get_or-flat_map span_spots ss k i no_span (spot 0 0) h (omega arith)
    ∙ ap (λ (x : Span). spot_at (span_spots x) i) (sym e) ∙ run_at r.source r.start r.len i low

-- the rows up to row i of span k
pub spots_up_to : (ss : List Span) (k i : ℕ) (r : Span) → k < length ss → r ≡ get_or ss k no_span → i ≤ r.len → take (length (spots (take k ss)) + i) (spots ss) ≡ spots (take k ss) ++ run_of r.source r.start i
spots_up_to ss k i r h e low =
    let before = spots (take k ss) in
    let own = span_spots r in
    let all : spots ss ≡ (before ++ own) ++ spots (drop (k + 1) ss) =
    ap spots (sym (take-append-drop (k + 1) ss)) ∙ spots_join (take (k + 1) ss) (drop (k + 1) ss) ∙ ap (λ l. l ++ spots (drop (k + 1) ss)) (spots_take ss k r h e) in
    let fits : length before + i ≤ length (before ++ own) = omega (arith, length-append before own, run_len r.source r.start r.len) in
    ap (take (length before + i)) all
    ∙ take-append-le (length before + i) (before ++ own) (spots (drop (k + 1) ss)) fits
    ∙ take-append-add before own i
    ∙ ap (λ l. before ++ l) (run_take r.source r.start r.len i low)

-- what the rows are made into, one behind another
pub made_join : {A : Type 0} (f : Spot → List A) (xs ys : List Spot) → flat_map f (xs ++ ys) ≡ flat_map f xs ++ flat_map f ys
made_join f xs ys = flat_map-append f xs ys

pub made_take : {A : Type 0} (f : Spot → List A) (ss : List Span) (k : ℕ) (r : Span) → k < length ss → r ≡ get_or ss k no_span → flat_map f (spots (take (k + 1) ss)) ≡ flat_map f (spots (take k ss)) ++ flat_map f (span_spots r)
made_take f ss k r h e = ap (flat_map f) (spots_take ss k r h e) ∙ flat_map-append f (spots (take k ss)) (span_spots r)

-- what holds of each row holds of each row of span k
pub in_span : (P : Spot → Type 0) (ss : List Span) (k i : ℕ) (r : Span) → k < length ss → r ≡ get_or ss k no_span → i < r.len → ((j : ℕ) → j < length (spots ss) → P (spot_at (spots ss) j)) → P (spot r.source (r.start + i))
in_span P ss k i r h e low all =
    subst P (spot_at_in_span ss k i r h e low) (all (length (spots (take k ss)) + i) (omega (arith, spots_within ss k r h e)))

-- ---- nodes

pub part_at_node : (nodes : List Node) (s : ℕ) (d : Node) → s < length nodes → part_at (parts_of nodes) s ≡ part_of (get_or nodes s d)
part_at_node nodes s d h = get_or-map part_of nodes s d no_part h

pub parts_len : (nodes : List Node) → length (parts_of nodes) ≡ length nodes
parts_len nodes = length-map nodes part_of

-- the rows of a span are among those of its source
pub record IsAmong (ps : List Part) (r : Span) : Type 0 where
  pub source : r.source < length ps
  pub from : (part_at ps r.source).offset ≤ r.start
  pub below : r.start + r.len ≤ (part_at ps r.source).offset + (part_at ps r.source).len

pub is_among : (ps : List Part) (ss : List Span) (k : ℕ) (r : Span) → k < length ss → r ≡ get_or ss k no_span → 0 < r.len → ArePlaces ps (spots ss) → IsAmong ps r
is_among ps ss k r h e some are =
    let first : r.start + 0 ≡ r.start = omega arith in
    let low = in_span (λ (s : Spot). (part_at ps s.source).offset ≤ s.row) ss k 0 r h e some are.from in
    let last : r.len - 1 < r.len = omega arith in
    let high = in_span (λ (s : Spot). s.row < (part_at ps s.source).offset + (part_at ps s.source).len) ss k (r.len - 1) r h e last are.below in
    record {
      source = in_span (λ (s : Spot). s.source < length ps) ss k 0 r h e some are.source;
      from = omega arith;
      below = omega arith;
    }

-- and have numbers below 2^60
pub few_rows : (ps : List Part) (s : ℕ) → AreAlike ps → s < length ps → (part_at ps s).offset + (part_at ps s).len < 2 ^ 60
few_rows ps s alike h = placed_end (part_at ps s) (alike.like s h).placed
