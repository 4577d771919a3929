-- One span more.
use Rattle.std.proofs.Common.{◌+◌, ◌≤◌, get_or, length, sym, refl, arith}
use Rattle.std.proofs.Math.Nat.{mul-le-mul_left}
use Rattle.vx_arrow_image.specs.Image.{part_of, parts_of, size_of}
use Rattle.vx_arrow_interleave.specs.Spots.{spots}
use Rattle.vx_arrow_interleave.proofs.EndRuns.{all_offsets, as_offsets, at_end, more_offsets, no_offsets, same_offsets, span_counted}
use Rattle.vx_arrow_interleave.proofs.EndSpans.{node_ordered, size_some, span_node}
use Rattle.vx_arrow_interleave.proofs.SpotLists.{no_node, no_span, part_at_node, spots_within}
use Rattle.vx_arrow_interleave.proofs.writing.write_offsets.Goals as goal
use Rattle.vx_arrow_interleave.proofs.writing.write_offsets.Goals.{then-span-ne0, else-span-ne0}

pub loop-k-init : goal.loop-k-init
loop-k-init c = no_offsets c.args.size _ _ c.args.out.now _ c.put_offset.ensures

pub offset_bounds-sources-span : goal.offset_bounds-sources-span
offset_bounds-sources-span c = omega (arith, span_node c.args.sources.now c.args.places.now c.loop-k.k c.loop-k-test.true c.if-span-ne0.true c.requires.places)

pub bounds-sources-span : goal.bounds-sources-span
bounds-sources-span c = span_node c.args.sources.now c.args.places.now c.loop-k.k c.loop-k-test.true c.if-span-ne0.true c.requires.places

pub put_ends-total-requires-clause-held : goal.put_ends-total-requires-clause-held
put_ends-total-requires-clause-held c = (node_ordered c.args.size c.args.sources.now c.args.places.now c.loop-k.k c.loop-k-test.true c.if-span-ne0.true c.requires.alike c.requires.places c.requires.cut).held

pub put_ends-total-requires-clause-from : goal.put_ends-total-requires-clause-from
put_ends-total-requires-clause-from c = (node_ordered c.args.size c.args.sources.now c.args.places.now c.loop-k.k c.loop-k-test.true c.if-span-ne0.true c.requires.alike c.requires.places c.requires.cut).from

pub put_ends-total-requires-clause-below : goal.put_ends-total-requires-clause-below
put_ends-total-requires-clause-below c = (node_ordered c.args.size c.args.sources.now c.args.places.now c.loop-k.k c.loop-k-test.true c.if-span-ne0.true c.requires.alike c.requires.places c.requires.cut).below

pub put_ends-total-requires-clause-few : goal.put_ends-total-requires-clause-few
put_ends-total-requires-clause-few c = (node_ordered c.args.size c.args.sources.now c.args.places.now c.loop-k.k c.loop-k-test.true c.if-span-ne0.true c.requires.alike c.requires.places c.requires.cut).few

pub put_ends-total-requires-clause-cut : goal.put_ends-total-requires-clause-cut
put_ends-total-requires-clause-cut c = (node_ordered c.args.size c.args.sources.now c.args.places.now c.loop-k.k c.loop-k-test.true c.if-span-ne0.true c.requires.alike c.requires.places c.requires.cut).ordered

pub put_ends-total-requires-clause-counted : goal.put_ends-total-requires-clause-counted
put_ends-total-requires-clause-counted c =
    let nodes = c.args.sources.now in
    let ss = c.args.places.now in
    let k = c.loop-k.k in
    let r = get_or ss k no_span in
    let there = span_node nodes ss k c.loop-k-test.true c.if-span-ne0.true c.requires.places in
    let some = span_counted c.args.size (parts_of nodes) ss k c.loop-k.first c.loop-k.total r (part_of (get_or nodes r.source no_node)) c.loop-k.out c.loop-k-test.true refl (sym (part_at_node nodes r.source no_node there)) c.loop-k.invariant in
    omega (arith, some, c.requires.counted)

pub put_ends-total-requires-clause-room : goal.put_ends-total-requires-clause-room
put_ends-total-requires-clause-room c =
    let ss = c.args.places.now in
    let k = c.loop-k.k in
    let r = get_or ss k no_span in
    let low : c.loop-k.first + r.len + 1 ≤ length (spots ss) + 1 = omega (arith, spots_within ss k r c.loop-k-test.true refl, c.loop-k.invariant.first_is) in
    omega (arith, mul-le-mul_left (size_of c.args.size) low, c.requires.room, c.loop-k.auto.out, c.put_offset.auto.offsets)

pub put_ends-total-requires-clause-total : goal.put_ends-total-requires-clause-total
put_ends-total-requires-clause-total c = at_end c.args.size (parts_of c.args.sources.now) c.args.places.now c.loop-k.k c.loop-k.first c.loop-k.total c.loop-k.out _ c.loop-k-test.true refl c.loop-k.invariant

pub overflow_add-first : goal.overflow_add-first
overflow_add-first c =
    let ss = c.args.places.now in
    let k = c.loop-k.k in
    omega (arith, spots_within ss k (get_or ss k no_span) c.loop-k-test.true refl, c.loop-k.invariant.first_is, size_some c.args.size (length (spots ss) + 1), c.requires.room)

pub loop-k-preserved : goal.loop-k-preserved
loop-k-preserved c =
    let z = c.args.size in
    let nodes = c.args.sources.now in
    let ps = parts_of nodes in
    let ss = c.args.places.now in
    let k = c.loop-k.k in
    let r = get_or ss k no_span in
    elim c.if-span-ne0.branch [
      | then-span-ne0 w ↦
          let there = span_node nodes ss k c.loop-k-test.true w.if-span-ne0.true c.requires.places in
          let own = w.put_ends-total.ensures in
          as_offsets z ps ss (k + 1) _ _ _ _ _ _ w.first-is w.total-is w.out-is
          (more_offsets z ps ss k c.loop-k.first c.loop-k.total r (part_of (get_or nodes r.source no_node)) w.put_ends-total.result c.loop-k.out w.put_ends-total.new.out c.loop-k-test.true refl
          (sym (part_at_node nodes r.source no_node there))
          (record { sum_is = own.total; ends = own.ends; before = own.before })
          c.loop-k.invariant)
      | else-span-ne0 w ↦
          as_offsets z ps ss (k + 1) _ _ _ _ _ _ w.first-is w.total-is w.out-is
          (same_offsets z ps ss k c.loop-k.first c.loop-k.total r c.loop-k.out c.loop-k-test.true refl (omega (arith, w.if-span-ne0.false)) c.loop-k.invariant)
    ]

pub returns : goal.returns
returns c = all_offsets c.args.size (parts_of c.args.sources.now) c.args.places.now c.loop-k.k c.loop-k.first c.loop-k.total _ (omega arith) c.loop-k.invariant
