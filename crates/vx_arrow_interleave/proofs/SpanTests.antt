-- What is tested of the rows of spans, one span after another.
use Rattle.std.proofs.Common.{◌≡◌, ℕ, ◌+◌, ◌*◌, ◌<◌, ◌≤◌, ◌^◌, true, List, length, get_or, take, ap, sym, ◌∙◌, refl, subst, inl, inr, arith}
use Rattle.std.proofs.lemmas.Bool.{cases_eq}
use Rattle.vx_arrow_image.specs.declared.image.Node as image
use Rattle.vx_arrow_image.specs.Image.{Part, has_child, holds_ids, ids_of, parts_of}
use Rattle.vx_arrow_image.proofs.SoundNodes.{zero_node}
use Rattle.vx_arrow_columns.proofs.RunRows.{run_bytes}
use Rattle.vx_arrow_interleave.specs.declared.spans.Span.{Span}
use Rattle.vx_arrow_interleave.specs.Bytes.{HoldRecords}
use Rattle.vx_arrow_interleave.specs.Planned.{HaveSameIds}
use Rattle.vx_arrow_interleave.specs.Sources.{AreAlike, part_at}
use Rattle.vx_arrow_interleave.specs.Spots.{Spot, run_of, spots}
use Rattle.vx_arrow_interleave.specs.Tested.{AreTagged}
use Rattle.vx_arrow_interleave.proofs.SourceRows.{Each, each_append, each_none, each_run}
use Rattle.vx_arrow_interleave.proofs.SpotLists.{few_rows, no_span, part_at_node, parts_len, spots_all, spots_none, spots_same, spots_take}

-- ---- what holds of each row so far

pub each_start : (P : Spot → Type 0) (ss : List Span) → Each P (spots (take 0 ss))
each_start P ss = each_none P _ (spots_none ss)

pub each_same : (P : Spot → Type 0) (ss : List Span) (k : ℕ) → k < length ss → (get_or ss k no_span).len ≡ 0 → Each P (spots (take k ss)) → Each P (spots (take (k + 1) ss))
each_same P ss k h none t = subst (Each P) (sym (spots_same ss k (get_or ss k no_span) h refl none)) t

pub each_more : (P : Spot → Type 0) (ss : List Span) (k : ℕ) → k < length ss → Each P (run_of (get_or ss k no_span).source (get_or ss k no_span).start (get_or ss k no_span).len) → Each P (spots (take k ss)) → Each P (spots (take (k + 1) ss))
each_more P ss k h own t =
    let s = get_or ss k no_span in
    each_append P (spots (take k ss)) (run_of s.source s.start s.len) _ (spots_take ss k s h refl) t own

pub each_all : (P : Spot → Type 0) (ss : List Span) (k : ℕ) → length ss ≤ k → Each P (spots (take k ss)) → Each P (spots ss)
each_all P ss k h t = subst (Each P) (spots_all ss k h) t

-- ---- records

abbrev pub IsSource : List Part → Spot → Type 0
IsSource ps s = s.source < length ps

abbrev pub HoldsRecord : ℕ → List Part → Spot → Type 0
HoldsRecord w ps s = s.row * w + w ≤ length (part_at ps s.source).values

pub record HoldTo (w : ℕ) (ps : List Part) (ss : List Spot) : Type 0 where
  pub source : Each (IsSource ps) ss
  pub held : Each (HoldsRecord w ps) ss

pub hold_none : (w : ℕ) (ps : List Part) (ss : List Span) → HoldTo w ps (spots (take 0 ss))
hold_none w ps ss = record { source = each_start (IsSource ps) ss; held = each_start (HoldsRecord w ps) ss }

pub hold_same : (w : ℕ) (ps : List Part) (ss : List Span) (k : ℕ) → k < length ss → (get_or ss k no_span).len ≡ 0 → HoldTo w ps (spots (take k ss)) → HoldTo w ps (spots (take (k + 1) ss))
hold_same w ps ss k h none t = record { source = each_same (IsSource ps) ss k h none t.source; held = each_same (HoldsRecord w ps) ss k h none t.held }

pub hold_more : (w : ℕ) (ps : List Part) (p : Part) (ss : List Span) (k : ℕ) → k < length ss → (get_or ss k no_span).source < length ps → part_at ps (get_or ss k no_span).source ≡ p
    → ((get_or ss k no_span).start + (get_or ss k no_span).len) * w ≤ length p.values → HoldTo w ps (spots (take k ss)) → HoldTo w ps (spots (take (k + 1) ss))
hold_more w ps p ss k h there at room t =
    let s = get_or ss k no_span in
    let bytes : (s.start + s.len) * w ≤ length (part_at ps s.source).values = subst (λ (q : Part). (s.start + s.len) * w ≤ length q.values) (sym at) room in
    record {
      source = each_more (IsSource ps) ss k h (each_run (IsSource ps) s.source s.start s.len (λ i f e. there)) t.source;
      held = each_more (HoldsRecord w ps) ss k h (each_run (HoldsRecord w ps) s.source s.start s.len (λ i f e.
          let one : w ≡ 1 * w = omega arith in
          let low : i * w + w ≤ length (part_at ps s.source).values = omega (arith, run_bytes i 1 (s.start + s.len) w (length (part_at ps s.source).values) (omega arith) bytes) in
          low)) t.held;
    }

pub hold_all : (w : ℕ) (ps : List Part) (ss : List Span) (k : ℕ) → length ss ≤ k → HoldTo w ps (spots (take k ss)) → HoldRecords w ps (spots ss)
hold_all w ps ss k h t =
    let a = each_all (IsSource ps) ss k h t.source in
    let b = each_all (HoldsRecord w ps) ss k h t.held in
    record { source = λ j l. a.at j l; held = λ j l. b.at j l }

-- ---- ids

abbrev pub IsTagged : List Part → Spot → Type 0
IsTagged ps s = has_child (part_at ps s.source) s.row ≡ true

pub tagged_more : (ps : List Part) (p : Part) (ss : List Span) (k : ℕ) → k < length ss → part_at ps (get_or ss k no_span).source ≡ p
    → ((i : ℕ) → (get_or ss k no_span).start ≤ i → i < (get_or ss k no_span).start + (get_or ss k no_span).len → has_child p i ≡ true) → Each (IsTagged ps) (spots (take k ss)) → Each (IsTagged ps) (spots (take (k + 1) ss))
tagged_more ps p ss k h at own t =
    let s = get_or ss k no_span in
    each_more (IsTagged ps) ss k h (each_run (IsTagged ps) s.source s.start s.len (λ i f e. ap (λ (q : Part). has_child q i) at ∙ own i f e)) t

pub tagged_all : (ps : List Part) (ss : List Span) (k : ℕ) → length ss ≤ k → HaveSameIds ps → Each (IsTagged ps) (spots (take k ss)) → AreTagged ps (spots ss)
tagged_all ps ss k h ids t =
    let all = each_all (IsTagged ps) ss k h t in
    record { held = λ s l. ids.held s l; ids = λ s l. ids.ids s l; tagged = λ j l. all.at j l }

-- the first nodes are unions with the same ids
pub record SameTo (ps : List Part) (k : ℕ) : Type 0 where
  pub held : (s : ℕ) → s < k → holds_ids (part_at ps s) ≡ true
  pub ids : (s : ℕ) → s < k → ids_of (part_at ps s) ≡ ids_of (part_at ps 0)

pub same_none : (ps : List Part) → SameTo ps 0
same_none ps = record { held = λ s h. absurd (omega arith); ids = λ s h. absurd (omega arith) }

pub same_more : (ps : List Part) (p q : Part) (k : ℕ) → part_at ps 0 ≡ p → part_at ps k ≡ q → holds_ids q ≡ true → ids_of q ≡ ids_of p → SameTo ps k → SameTo ps (k + 1)
same_more ps p q k first at held ids t = record {
  held = λ s h. elim (cases_eq s k) as (λ _. holds_ids (part_at ps s) ≡ true) [
    | inl here ↦ ap (λ n. holds_ids (part_at ps n)) here ∙ ap holds_ids at ∙ held
    | inr other ↦ t.held s (omega arith)
  ];
  ids = λ s h. elim (cases_eq s k) as (λ _. ids_of (part_at ps s) ≡ ids_of (part_at ps 0)) [
    | inl here ↦ ap (λ n. ids_of (part_at ps n)) here ∙ ap ids_of at ∙ ids ∙ sym (ap ids_of first)
    | inr other ↦ t.ids s (omega arith)
  ];
}

pub same_all : (ps : List Part) (k : ℕ) → length ps ≤ k → SameTo ps k → HaveSameIds ps
same_all ps k h t = record { held = λ s l. t.held s (omega arith); ids = λ s l. t.ids s (omega arith) }

-- ---- nodes

-- node s is there, like the first, and its rows have numbers below 2^60
pub node_few : (nodes : List image.Node) (s : ℕ) → AreAlike (parts_of nodes) → s < length nodes → (get_or nodes s zero_node).offset + (get_or nodes s zero_node).len < 2 ^ 60
node_few nodes s alike h = subst (λ (p : Part). p.offset + p.len < 2 ^ 60) (part_at_node nodes s zero_node h) (few_rows (parts_of nodes) s alike (omega (arith, parts_len nodes)))

pub node_children : (nodes : List image.Node) (s : ℕ) → AreAlike (parts_of nodes) → s < length nodes → (get_or nodes s zero_node).children ≡ (get_or nodes 0 zero_node).children
node_children nodes s alike h =
    let like = alike.like s (omega (arith, parts_len nodes)) in
    ap (λ (p : Part). p.children) (sym (part_at_node nodes s zero_node h)) ∙ like.children ∙ ap (λ (p : Part). p.children) (part_at_node nodes 0 zero_node (omega arith))
