-- One span more.
use Rattle.std.proofs.Common.{◌+◌, ◌≤◌, ℕ, get_or, length, refl, arith}
use Rattle.std.proofs.Math.Nat.{mul-le-mul_left}
use Rattle.vx_arrow_image.specs.Image.{part_of, parts_of, size_of}
use Rattle.vx_arrow_image.proofs.SoundNodes.{zero_node}
use Rattle.vx_arrow_interleave.specs.Given.{view_items_at}
use Rattle.vx_arrow_interleave.specs.Spots.{spots}
use Rattle.vx_arrow_interleave.proofs.EndSpans.{size_some}
use Rattle.vx_arrow_interleave.proofs.RowRuns.{as_numbers, more_numbers, no_numbers, same_numbers}
use Rattle.vx_arrow_interleave.proofs.SourceRows.{is_in_node}
use Rattle.vx_arrow_interleave.proofs.SpotLists.{no_span, spots_within}
use Rattle.vx_arrow_interleave.proofs.ViewRuns.{all_sizes, run_sizes, size_by, span_sizes, views_within}
use Rattle.vx_arrow_interleave.proofs.list_views.write_sizes.Goals as goal
use Rattle.vx_arrow_interleave.proofs.list_views.write_sizes.Goals.{then-span-ne0, else-span-ne0}

pub loop-k-init : goal.loop-k-init
loop-k-init c = no_numbers _ _ _ _

pub offset_bounds-sources-span : goal.offset_bounds-sources-span
offset_bounds-sources-span c =
    let n = is_in_node c.args.sources.now c.args.places.now c.loop-k.k c.requires.alike c.requires.places c.loop-k-test.true (omega (arith, c.if-span-ne0.true)) in
    omega (arith, n.source)

pub bounds-sources-span : goal.bounds-sources-span
bounds-sources-span c = (is_in_node c.args.sources.now c.args.places.now c.loop-k.k c.requires.alike c.requires.places c.loop-k-test.true (omega (arith, c.if-span-ne0.true))).source

pub put_sizes-requires-clause-few : goal.put_sizes-requires-clause-few
put_sizes-requires-clause-few c =
    let n = is_in_node c.args.sources.now c.args.places.now c.loop-k.k c.requires.alike c.requires.places c.loop-k-test.true (omega (arith, c.if-span-ne0.true)) in
    omega (arith, n.below, n.few)

pub put_sizes-requires-clause-sizes : goal.put_sizes-requires-clause-sizes
put_sizes-requires-clause-sizes c =
    let n = is_in_node c.args.sources.now c.args.places.now c.loop-k.k c.requires.alike c.requires.places c.loop-k-test.true (omega (arith, c.if-span-ne0.true)) in
    span_sizes c.args.size (parts_of c.args.sources.now) c.args.places.now c.loop-k.k _ _ c.loop-k-test.true refl (omega (arith, c.if-span-ne0.true)) n.part c.requires.held

pub put_sizes-requires-clause-counted : goal.put_sizes-requires-clause-counted
put_sizes-requires-clause-counted c =
    let n = is_in_node c.args.sources.now c.args.places.now c.loop-k.k c.requires.alike c.requires.places c.loop-k-test.true (omega (arith, c.if-span-ne0.true)) in
    omega (arith, views_within c.args.size (parts_of c.args.sources.now) c.args.places.now c.loop-k.k _ _ c.loop-k-test.true refl n.part, c.requires.counted)

pub put_sizes-requires-clause-room : goal.put_sizes-requires-clause-room
put_sizes-requires-clause-room c =
    let ss = c.args.places.now in
    let r = get_or ss c.loop-k.k no_span in
    let low : c.loop-k.first + r.len ≤ length (spots ss) = omega (arith, spots_within ss c.loop-k.k r c.loop-k-test.true refl, c.loop-k.invariant.first_is) in
    omega (arith, mul-le-mul_left (size_of c.args.size) low, c.requires.room, c.loop-k.auto.out)

pub overflow_add-first : goal.overflow_add-first
overflow_add-first c =
    let ss = c.args.places.now in
    let k = c.loop-k.k in
    omega (arith, spots_within ss k (get_or ss k no_span) c.loop-k-test.true refl, c.loop-k.invariant.first_is, size_some c.args.size (length (spots ss)), c.requires.room)

pub loop-k-preserved : goal.loop-k-preserved
loop-k-preserved c =
    let z = c.args.size in
    let nodes = c.args.sources.now in
    let ps = parts_of nodes in
    let ss = c.args.places.now in
    let k = c.loop-k.k in
    let r = get_or ss k no_span in
    let f = size_by z ps ss in
    elim c.if-span-ne0.branch [
      | then-span-ne0 w ↦
          let n = is_in_node nodes ss k c.requires.alike c.requires.places c.loop-k-test.true (omega (arith, w.if-span-ne0.true)) in
          let p = part_of (get_or nodes r.source zero_node) in
          let own = w.put_sizes.ensures in
          as_numbers z f ss (k + 1) _ _ _ _ w.first-is w.out-is
          (more_numbers z f (λ (i : ℕ). length (view_items_at z p r.source (r.start + i))) ss k c.loop-k.first r c.loop-k.out w.put_sizes.new.out c.loop-k-test.true refl
          (run_sizes z ps ss k c.loop-k.first r p c.loop-k.out c.loop-k-test.true refl n.part c.loop-k.invariant)
          (record { put = own.sizes; before = own.before }) c.loop-k.invariant)
      | else-span-ne0 w ↦
          as_numbers z f ss (k + 1) _ _ _ _ w.first-is w.out-is (same_numbers z f ss k c.loop-k.first r c.loop-k.out c.loop-k-test.true refl (omega (arith, w.if-span-ne0.false)) c.loop-k.invariant)
    ]

pub returns : goal.returns
returns c = all_sizes c.args.size (parts_of c.args.sources.now) c.args.places.now c.loop-k.k c.loop-k.first _ (omega arith) c.loop-k.invariant
