-- One span more.
use Rattle.std.proofs.Common.{◌≡◌, ◌+◌, ◌≤◌, ℕ, get_or, length, ap, sym, ◌∙◌, refl, arith}
use Rattle.std.proofs.Math.Nat.{mul-le-mul_left}
use Rattle.vx_arrow_image.specs.Image.{part_of, parts_of, size_of}
use Rattle.vx_arrow_image.proofs.SoundNodes.{zero_node}
use Rattle.vx_arrow_interleave.specs.Given.{view_items_at}
use Rattle.vx_arrow_interleave.specs.Spots.{spots}
use Rattle.vx_arrow_interleave.proofs.EndSpans.{size_some}
use Rattle.vx_arrow_interleave.proofs.RowRuns.{as_numbers, more_numbers, no_numbers, same_numbers, sum_of}
use Rattle.vx_arrow_interleave.proofs.SourceRows.{is_in_node}
use Rattle.vx_arrow_interleave.proofs.SpotLists.{no_span, spots_within}
use Rattle.vx_arrow_interleave.proofs.ViewRuns.{all_starts, no_total, run_starts, same_total, span_sizes, start_by, views_more, views_within}
use Rattle.vx_arrow_interleave.proofs.list_views.write_starts.Goals as goal
use Rattle.vx_arrow_interleave.proofs.list_views.write_starts.Goals.{then-span-ne0, else-span-ne0}

pub loop-k-init : goal.loop-k-init
loop-k-init c = record { numbers = no_numbers _ _ _ _; total_is = no_total c.args.size (parts_of c.args.sources.now) c.args.places.now }

pub offset_bounds-sources-span : goal.offset_bounds-sources-span
offset_bounds-sources-span c =
    let n = is_in_node c.args.sources.now c.args.places.now c.loop-k.k c.requires.alike c.requires.places c.loop-k-test.true (omega (arith, c.if-span-ne0.true)) in
    omega (arith, n.source)

pub bounds-sources-span : goal.bounds-sources-span
bounds-sources-span c = (is_in_node c.args.sources.now c.args.places.now c.loop-k.k c.requires.alike c.requires.places c.loop-k-test.true (omega (arith, c.if-span-ne0.true))).source

pub put_starts-total-requires-clause-few : goal.put_starts-total-requires-clause-few
put_starts-total-requires-clause-few c =
    let n = is_in_node c.args.sources.now c.args.places.now c.loop-k.k c.requires.alike c.requires.places c.loop-k-test.true (omega (arith, c.if-span-ne0.true)) in
    omega (arith, n.below, n.few)

pub put_starts-total-requires-clause-sizes : goal.put_starts-total-requires-clause-sizes
put_starts-total-requires-clause-sizes c =
    let n = is_in_node c.args.sources.now c.args.places.now c.loop-k.k c.requires.alike c.requires.places c.loop-k-test.true (omega (arith, c.if-span-ne0.true)) in
    span_sizes c.args.size (parts_of c.args.sources.now) c.args.places.now c.loop-k.k _ _ c.loop-k-test.true refl (omega (arith, c.if-span-ne0.true)) n.part c.requires.held

pub put_starts-total-requires-clause-counted : goal.put_starts-total-requires-clause-counted
put_starts-total-requires-clause-counted c =
    let n = is_in_node c.args.sources.now c.args.places.now c.loop-k.k c.requires.alike c.requires.places c.loop-k-test.true (omega (arith, c.if-span-ne0.true)) in
    omega (arith, views_within c.args.size (parts_of c.args.sources.now) c.args.places.now c.loop-k.k _ _ c.loop-k-test.true refl n.part, c.loop-k.invariant.total_is, c.requires.counted)

pub put_starts-total-requires-clause-room : goal.put_starts-total-requires-clause-room
put_starts-total-requires-clause-room c =
    let ss = c.args.places.now in
    let r = get_or ss c.loop-k.k no_span in
    let low : c.loop-k.first + r.len ≤ length (spots ss) = omega (arith, spots_within ss c.loop-k.k r c.loop-k-test.true refl, c.loop-k.invariant.numbers.first_is) in
    omega (arith, mul-le-mul_left (size_of c.args.size) low, c.requires.room, c.loop-k.auto.out)

pub overflow_add-first : goal.overflow_add-first
overflow_add-first c =
    let ss = c.args.places.now in
    let k = c.loop-k.k in
    omega (arith, spots_within ss k (get_or ss k no_span) c.loop-k-test.true refl, c.loop-k.invariant.numbers.first_is, size_some c.args.size (length (spots ss)), c.requires.room)

pub loop-k-preserved : goal.loop-k-preserved
loop-k-preserved c =
    let z = c.args.size in
    let nodes = c.args.sources.now in
    let ps = parts_of nodes in
    let ss = c.args.places.now in
    let k = c.loop-k.k in
    let r = get_or ss k no_span in
    let f = start_by z ps ss in
    elim c.if-span-ne0.branch [
      | then-span-ne0 w ↦
          let n = is_in_node nodes ss k c.requires.alike c.requires.places c.loop-k-test.true (omega (arith, w.if-span-ne0.true)) in
          let p = part_of (get_or nodes r.source zero_node) in
          let own = w.put_starts-total.ensures in
          record {
            numbers = as_numbers z f ss (k + 1) _ _ _ _ w.first-is w.out-is
                (more_numbers z f (λ (i : ℕ). c.loop-k.total + sum_of (view_items_at z p r.source) r.start i) ss k c.loop-k.first r c.loop-k.out w.put_starts-total.new.out c.loop-k-test.true refl
                (run_starts z ps ss k c.loop-k.first c.loop-k.total r p c.loop-k.out c.loop-k-test.true refl n.part c.loop-k.invariant)
                (record { put = own.starts; before = own.before }) c.loop-k.invariant.numbers);
            total_is = w.total-is ∙ own.total ∙ ap (λ m. m + sum_of (view_items_at z p r.source) r.start r.len) c.loop-k.invariant.total_is ∙ sym (views_more z ps ss k r p c.loop-k-test.true refl n.part);
          }
      | else-span-ne0 w ↦
          let none : r.len ≡ 0 = omega (arith, w.if-span-ne0.false) in
          record {
            numbers = as_numbers z f ss (k + 1) _ _ _ _ w.first-is w.out-is (same_numbers z f ss k c.loop-k.first r c.loop-k.out c.loop-k-test.true refl none c.loop-k.invariant.numbers);
            total_is = w.total-is ∙ same_total z ps ss k c.loop-k.total r c.loop-k-test.true refl none c.loop-k.invariant.total_is;
          }
    ]

pub returns : goal.returns
returns c = all_starts c.args.size (parts_of c.args.sources.now) c.args.places.now c.loop-k.k c.loop-k.first c.loop-k.total _ (omega arith) c.loop-k.invariant
