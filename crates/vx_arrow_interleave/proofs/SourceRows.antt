-- The nodes at one place of each table, and rows by their places in them.
use Rattle.std.proofs.Common.{zero, suc, ◌≡◌, ℕ, ◌+◌, ◌-◌, ◌<◌, ◌≤◌, ◌^◌, false, List, [], ◌∷◌, ◌++◌, length, map, get_or, ap, sym, ◌∙◌, refl, subst, inl, inr, arith, length-append}
use Rattle.std.specs.Prelude.{◌==◌, not}
use Rattle.std.proofs.lemmas.Bool.{cases_lt, ne_eqb}
use Rattle.std.proofs.lemmas.List.{get_or-append_right, get_or_append_left, get_or-map, length-map, map-append}
use Rattle.vx_arrow_image.specs.declared.image.Node as image
use Rattle.vx_arrow_image.specs.Image.{Part, part_of, parts_of}
use Rattle.vx_arrow_image.proofs.SoundNodes.{zero_node}
use Rattle.vx_arrow_columns.specs.Picks.{has_bits}
use Rattle.vx_arrow_interleave.specs.declared.spans.Span.{Span}
use Rattle.vx_arrow_interleave.specs.Given.{places}
use Rattle.vx_arrow_interleave.specs.Sources.{AreAlike, ArePlaces, AreRows, moved, part_at}
use Rattle.vx_arrow_interleave.specs.Spots.{Spot, run_of, spot, spot_at, spots}
use Rattle.vx_arrow_interleave.proofs.SpotLists.{few_rows, is_among, no_span, part_at_node, parts_len, run_at, run_len}

-- bytes are some, or none
pub bits_by : (v : List ℕ) → has_bits v ≡ not (length v == 0)
bits_by [] = refl
bits_by (b ∷ bs) = let none : (length (b ∷ bs) == 0) ≡ false = ne_eqb _ _ (λ e. absurd (omega arith)) in ap not (sym none)

-- it holds of each spot
pub record Each (P : Spot → Type 0) (ss : List Spot) : Type 0 where
  pub at : (k : ℕ) → k < length ss → P (spot_at ss k)

pub each_none : (P : Spot → Type 0) (ss : List Spot) → ss ≡ [] → Each P ss
each_none P ss e = record { at = λ k h. absurd (omega (arith, ap length e)) }

pub each_append : (P : Spot → Type 0) (xs ys zs : List Spot) → zs ≡ xs ++ ys → Each P xs → Each P ys → Each P zs
each_append P xs ys zs e a b = subst (Each P) (sym e) (record {
  at = λ k h. elim (cases_lt k (length xs)) as (λ _. P (spot_at (xs ++ ys) k)) [
    | inl low ↦ subst P (sym (get_or_append_left xs ys (spot 0 0) k low)) (a.at k low)
    | inr high ↦ subst P (sym (get_or-append_right xs ys (length xs) k (spot 0 0) refl high)) (b.at (k - length xs) (omega (arith, length-append xs ys)))
  ];
})

pub each_run : (P : Spot → Type 0) (s a n : ℕ) → ((i : ℕ) → a ≤ i → i < a + n → P (spot s i)) → Each P (run_of s a n)
each_run P s a n f = record {
  at = λ k h.
      let low : k < n = omega (arith, run_len s a n) in
      subst P (sym (run_at s a n k low)) (f (a + k) (omega arith) (omega arith));
}

-- ---- rows

pub rows_from : (ps : List Part) (ss : List Spot) → Each (λ (s : Spot). s.source < length ps) ss → Each (λ (s : Spot). s.row < (part_at ps s.source).len) ss → AreRows ps ss
rows_from ps ss a b = record { source = λ k h. a.at k h; row = λ k h. b.at k h }

pub sources_of : (ps : List Part) (ss : List Spot) → AreRows ps ss → Each (λ (s : Spot). s.source < length ps) ss
sources_of ps ss r = record { at = λ k h. r.source k h }

pub rows_of : (ps : List Part) (ss : List Spot) → AreRows ps ss → Each (λ (s : Spot). s.row < (part_at ps s.source).len) ss
rows_of ps ss r = record { at = λ k h. r.row k h }

pub no_rows : (ps : List Part) (ss : List Spot) → ss ≡ [] → AreRows ps ss
no_rows ps ss e = rows_from ps ss (each_none _ ss e) (each_none _ ss e)

pub more_rows : (ps : List Part) (xs ys zs : List Spot) → zs ≡ xs ++ ys → AreRows ps xs → AreRows ps ys → AreRows ps zs
more_rows ps xs ys zs e a b =
    rows_from ps zs
    (each_append (λ (s : Spot). s.source < length ps) xs ys zs e (sources_of ps xs a) (sources_of ps ys b))
    (each_append (λ (s : Spot). s.row < (part_at ps s.source).len) xs ys zs e (rows_of ps xs a) (rows_of ps ys b))

pub run_rows : (ps : List Part) (s a n : ℕ) → s < length ps → a + n ≤ (part_at ps s).len → AreRows ps (run_of s a n)
run_rows ps s a n h low =
    rows_from ps (run_of s a n)
    (each_run (λ (x : Spot). x.source < length ps) s a n (λ i f e. h))
    (each_run (λ (x : Spot). x.row < (part_at ps x.source).len) s a n (λ i f e. let l : i < (part_at ps s).len = omega arith in l))

-- ---- their places

pub places_append : (ps : List Part) (xs ys : List Spot) → places ps (xs ++ ys) ≡ places ps xs ++ places ps ys
unfolding places
places_append ps xs ys = map-append (moved ps) xs ys

pub no_places : (ps : List Part) (ss : List Spot) → ss ≡ [] → places ps ss ≡ []
unfolding places
no_places ps ss e = ap (map (moved ps)) e

pub run_places : (ps : List Part) (s a n : ℕ) → places ps (run_of s a n) ≡ run_of s ((part_at ps s).offset + a) n
unfolding places
run_places ps s a zero = refl
run_places ps s a (suc n) =
    let next : (part_at ps s).offset + (a + 1) ≡ (part_at ps s).offset + a + 1 = omega arith in
    ap (λ (l : List Spot). spot s ((part_at ps s).offset + a) ∷ l) (run_places ps s (a + 1) n ∙ ap (λ (k : ℕ). run_of s k n) next)

-- the places of rows are among those of their nodes
pub rows_placed : (ps : List Part) (ss own : List Spot) → own ≡ places ps ss → AreRows ps ss → ArePlaces ps own
unfolding places
rows_placed ps ss own e r =
    let P = λ (s : Spot). s.source < length ps in
    let size : length own ≡ length ss = ap length e ∙ length-map ss (moved ps) in
    let at : (k : ℕ) → k < length own → spot_at own k ≡ moved ps (spot_at ss k) = λ k h. ap (λ (l : List Spot). spot_at l k) e ∙ get_or-map (moved ps) ss k (spot 0 0) (spot 0 0) (omega (arith, size)) in
    record {
      source = λ k h. subst (λ (s : Spot). s.source < length ps) (sym (at k h)) (r.source k (omega (arith, size)));
      from = λ k h. subst (λ (s : Spot). (part_at ps s.source).offset ≤ s.row) (sym (at k h)) (omega arith);
      below = λ k h. subst (λ (s : Spot). s.row < (part_at ps s.source).offset + (part_at ps s.source).len) (sym (at k h)) (let low = r.row k (omega (arith, size)) in omega arith);
    }

-- ---- a span of places

-- its rows are among those of its node, and have numbers below 2^60
pub record IsInNode (nodes : List image.Node) (s : Span) : Type 0 where
  pub source : s.source < length nodes
  pub part : part_at (parts_of nodes) s.source ≡ part_of (get_or nodes s.source zero_node)
  pub from : (get_or nodes s.source zero_node).offset ≤ s.start
  pub below : s.start + s.len ≤ (get_or nodes s.source zero_node).offset + (get_or nodes s.source zero_node).len
  pub few : (get_or nodes s.source zero_node).offset + (get_or nodes s.source zero_node).len < 2 ^ 60

pub is_in_node : (nodes : List image.Node) (ss : List Span) (k : ℕ) → AreAlike (parts_of nodes) → ArePlaces (parts_of nodes) (spots ss) → k < length ss → 0 < (get_or ss k no_span).len → IsInNode nodes (get_or ss k no_span)
is_in_node nodes ss k alike are h some =
    let s = get_or ss k no_span in
    let among = is_among (parts_of nodes) ss k s h refl some are in
    let low : s.source < length nodes = omega (arith, among.source, parts_len nodes) in
    let part = part_at_node nodes s.source zero_node low in
    record {
      source = low;
      part = part;
      from = subst (λ (p : Part). p.offset ≤ s.start) part among.from;
      below = subst (λ (p : Part). s.start + s.len ≤ p.offset + p.len) part among.below;
      few = subst (λ (p : Part). p.offset + p.len < 2 ^ 60) part (few_rows (parts_of nodes) s.source alike among.source);
    }
