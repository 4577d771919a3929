-- The items of the rows of one span more.
use Rattle.std.proofs.Common.{get_or, take, ap, ◌∙◌, refl, arith}
use Rattle.vx_arrow_image.specs.Image.{part_of, parts_of}
use Rattle.vx_arrow_image.proofs.SoundNodes.{zero_node}
use Rattle.vx_arrow_interleave.specs.Spots.{spots}
use Rattle.vx_arrow_interleave.proofs.SourceRows.{is_in_node}
use Rattle.vx_arrow_interleave.proofs.SpanItems.{bare_spots}
use Rattle.vx_arrow_interleave.proofs.SpotLists.{no_span, spots_none, spots_same, spots_take}
use Rattle.vx_arrow_interleave.proofs.ViewRuns.{as_views, more_views, no_views}
use Rattle.vx_arrow_interleave.proofs.list_views.view_items_of.Goals as goal
use Rattle.vx_arrow_interleave.proofs.list_views.view_items_of.Goals.{then-span-ne0+in_ok-test_views+in_ok-total, else-span-ne0}

pub loop-k-init : goal.loop-k-init
loop-k-init c = no_views _ _ _ _ (spots_none c.args.places.now) (bare_spots _ c.new-list.ensures.items)

pub offset_bounds-sources-span : goal.offset_bounds-sources-span
offset_bounds-sources-span c =
    let n = is_in_node c.args.sources.now c.args.places.now c.loop-k.k c.requires.alike c.requires.places c.loop-k-test.true (omega (arith, c.if-span-ne0.true)) in
    omega (arith, n.source)

pub bounds-sources-span : goal.bounds-sources-span
bounds-sources-span c =
    let n = is_in_node c.args.sources.now c.args.places.now c.loop-k.k c.requires.alike c.requires.places c.loop-k-test.true (omega (arith, c.if-span-ne0.true)) in
    n.source

pub test_views-requires : goal.test_views-requires
test_views-requires c =
    let n = is_in_node c.args.sources.now c.args.places.now c.loop-k.k c.requires.alike c.requires.places c.loop-k-test.true (omega (arith, c.if-span-ne0.true)) in
    omega (arith, n.below, n.few)

pub push_views-requires-clause-few : goal.push_views-requires-clause-few
push_views-requires-clause-few c =
    let n = is_in_node c.args.sources.now c.args.places.now c.loop-k.k c.requires.alike c.requires.places c.loop-k-test.true (omega (arith, c.if-span-ne0.true)) in
    omega (arith, n.below, n.few)

pub loop-k-preserved : goal.loop-k-preserved
loop-k-preserved c =
    let nodes = c.args.sources.now in
    let ps = parts_of nodes in
    let ss = c.args.places.now in
    let k = c.loop-k.k in
    let s = get_or ss k no_span in
    elim c.if-span-ne0.branch [
      | then-span-ne0+in_ok-test_views+in_ok-total w ↦
          let n = is_in_node nodes ss k c.requires.alike c.requires.places c.loop-k-test.true (omega (arith, w.if-span-ne0.true)) in
          let e = w.in_ok-total.ensures in
          more_views c.args.size ps (part_of (get_or nodes s.source zero_node)) (spots (take k ss)) _ s.source s.start s.len c.loop-k.total c.if-span-ne0.total (spots c.loop-k.list.items) (spots c.if-span-ne0.list.items) (spots_take ss k s c.loop-k-test.true refl) n.part w.in_ok-test_views.ensures.starts w.in_ok-test_views.ensures.sizes
          (record { items = ap (λ v. spots v.items) w.list-is ∙ e.items; counted = w.total-is ∙ e.total; small = omega (arith, w.total-is, e.small) }) c.loop-k.invariant
      | else-span-ne0 w ↦
          as_views c.args.size ps (spots (take k ss)) _ c.loop-k.total c.if-span-ne0.total (spots c.loop-k.list.items) (spots c.if-span-ne0.list.items) (spots_same ss k s c.loop-k-test.true refl w.if-span-ne0.false) w.total-is (ap (λ v. spots v.items) w.list-is) c.loop-k.invariant
    ]
