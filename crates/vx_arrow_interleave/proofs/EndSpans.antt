-- A span whose items stand in order.
use Rattle.std.proofs.Common.{◌≡◌, ℕ, ◌+◌, ◌-◌, ◌*◌, ◌^◌, ◌<◌, ◌≤◌, true, List, length, get_or, refl, subst, arith}
use Rattle.vx_arrow_image.specs.declared.format.Offsets.{Offsets}
use Rattle.vx_arrow_image.specs.declared.format.Offsets.TheVariants.{Short, Long}
use Rattle.vx_arrow_image.specs.declared.image.Node.{Node}
use Rattle.vx_arrow_image.specs.Image.{Part, holds_offsets, is_valid, offset_at, part_of, parts_of, size_of}
use Rattle.vx_arrow_interleave.specs.declared.spans.Span.{Span}
use Rattle.vx_arrow_interleave.specs.Cuts.{AreOrdered}
use Rattle.vx_arrow_interleave.specs.Sources.{AreAlike, ArePlaces, is_there, part_at}
use Rattle.vx_arrow_interleave.specs.Spots.{Spot, spots}
use Rattle.vx_arrow_interleave.proofs.SpotLists.{few_rows, in_span, is_among, no_node, no_span, part_at_node, parts_len}

-- its rows are among those of a node, and their items stand in order
pub record IsOrdered (z : Offsets) (p : Part) (r : Span) : Type 0 where
  pub held : holds_offsets z p ≡ true
  pub from : p.offset ≤ r.start
  pub below : r.start + r.len ≤ p.offset + p.len
  pub few : p.offset + p.len < 2 ^ 60
  pub ordered : (i : ℕ) → r.start ≤ i → i < r.start + r.len → is_valid p.valid i ≡ true → offset_at z p.offsets i ≤ offset_at z p.offsets (i + 1)

span_ordered : (z : Offsets) (ps : List Part) (ss : List Span) (k : ℕ) (r : Span) → k < length ss → r ≡ get_or ss k no_span → 0 < r.len → AreAlike ps → ArePlaces ps (spots ss) → AreOrdered z ps (spots ss) → IsOrdered z (part_at ps r.source) r
span_ordered z ps ss k r h e some alike places cut =
    let among = is_among ps ss k r h e some places in
    let p = part_at ps r.source in
    record {
      held = in_span (λ (s : Spot). holds_offsets z (part_at ps s.source) ≡ true) ss k 0 r h e some cut.held;
      from = among.from;
      below = among.below;
      few = few_rows ps r.source alike among.source;
      ordered = λ i from below there.
          let j = i - r.start in
          let low : j < r.len = omega arith in
          let here : r.start + j ≡ i = omega arith in
          let own = in_span (λ (s : Spot). is_there ps s ≡ true → offset_at z (part_at ps s.source).offsets s.row ≤ offset_at z (part_at ps s.source).offsets (s.row + 1)) ss k j r h e low cut.ordered in
          subst (λ (n : ℕ). is_valid p.valid n ≡ true → offset_at z p.offsets n ≤ offset_at z p.offsets (n + 1)) here own there;
    }

-- the node that a span with rows has its rows in
pub span_node : (nodes : List Node) (ss : List Span) (k : ℕ) → k < length ss → ((get_or ss k no_span).len ≡ 0 → ⊥) → ArePlaces (parts_of nodes) (spots ss) → (get_or ss k no_span).source < length nodes
span_node nodes ss k h some places = omega (arith, (is_among (parts_of nodes) ss k (get_or ss k no_span) h refl (omega (arith, some)) places).source, parts_len nodes)

pub node_ordered : (z : Offsets) (nodes : List Node) (ss : List Span) (k : ℕ) → k < length ss → ((get_or ss k no_span).len ≡ 0 → ⊥) → AreAlike (parts_of nodes) → ArePlaces (parts_of nodes) (spots ss) → AreOrdered z (parts_of nodes) (spots ss)
    → IsOrdered z (part_of (get_or nodes (get_or ss k no_span).source no_node)) (get_or ss k no_span)
node_ordered z nodes ss k h some alike places cut =
    let r = get_or ss k no_span in
    subst (λ (p : Part). IsOrdered z p r) (part_at_node nodes r.source no_node (span_node nodes ss k h some places))
    (span_ordered z (parts_of nodes) ss k r h refl (omega (arith, some)) alike places cut)

pub size_some : (z : Offsets) (n : ℕ) → n ≤ size_of z * n
size_some Short n = omega arith
size_some Long n = omega arith
