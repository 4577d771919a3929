-- What the rows of one span more show.
use Rattle.std.proofs.Common.{◌+◌, get_or, take, ap, refl, arith}
use Rattle.vx_arrow_image.specs.Image.{part_of, parts_of}
use Rattle.vx_arrow_image.proofs.SoundNodes.{zero_node}
use Rattle.vx_arrow_interleave.specs.Spots.{spots}
use Rattle.vx_arrow_interleave.proofs.ShownViews.{all_lists, lists_more, lists_none, lists_same, show_views}
use Rattle.vx_arrow_interleave.proofs.SourceRows.{is_in_node}
use Rattle.vx_arrow_interleave.proofs.SpotLists.{no_span, spots_all, spots_none, spots_same, spots_take}
use Rattle.vx_arrow_interleave.proofs.text_views.viewed_items_of.Goals as goal
use Rattle.vx_arrow_interleave.proofs.text_views.viewed_items_of.Goals.{then-span-ne0+else-span-node+in_ok-push_views, else-span-ne0}

pub loop-k-init : goal.loop-k-init
loop-k-init c = lists_none _ _ _ _ (spots_none c.args.places.now) c.in_ok-lists.ensures.many c.in_ok-lists.ensures.empty

pub offset_bounds-sources-span : goal.offset_bounds-sources-span
offset_bounds-sources-span c =
    let n = is_in_node c.args.sources.now c.args.places.now c.loop-k.k c.requires.alike c.requires.places c.loop-k-test.true (omega (arith, c.if-span-ne0.true)) in
    omega (arith, n.source)

pub bounds-sources-span : goal.bounds-sources-span
bounds-sources-span c =
    let n = is_in_node c.args.sources.now c.args.places.now c.loop-k.k c.requires.alike c.requires.places c.loop-k-test.true (omega (arith, c.if-span-ne0.true)) in
    n.source

pub overflow_add-span : goal.overflow_add-span
overflow_add-span c =
    let n = is_in_node c.args.sources.now c.args.places.now c.loop-k.k c.requires.alike c.requires.places c.loop-k-test.true (omega (arith, c.if-span-ne0.true)) in
    omega (arith, n.below, n.few)

pub overflow_mul-span : goal.overflow_mul-span
overflow_mul-span c =
    let n = is_in_node c.args.sources.now c.args.places.now c.loop-k.k c.requires.alike c.requires.places c.loop-k-test.true (omega (arith, c.if-span-ne0.true)) in
    omega (arith, n.below, n.few)

pub push_views-requires-clause-few : goal.push_views-requires-clause-few
push_views-requires-clause-few c =
    let n = is_in_node c.args.sources.now c.args.places.now c.loop-k.k c.requires.alike c.requires.places c.loop-k-test.true (omega (arith, c.if-span-ne0.true)) in
    omega (arith, n.below, n.few)

pub loop-k-preserved : goal.loop-k-preserved
loop-k-preserved c =
    let nodes = c.args.sources.now in
    let ps = parts_of nodes in
    let ss = c.args.places.now in
    let k = c.loop-k.k in
    let s = get_or ss k no_span in
    elim c.if-span-ne0.branch [
      | then-span-ne0+else-span-node+in_ok-push_views w ↦
          let n = is_in_node nodes ss k c.requires.alike c.requires.places c.loop-k-test.true (omega (arith, w.if-span-ne0.true)) in
          let e = w.in_ok-push_views.ensures in
          lists_same c.args.count ps (spots (take (k + 1) ss)) (spots (take (k + 1) ss)) w.push_views.new.lists.items c.if-span-ne0.lists.items refl (ap (λ v. v.items) w.lists-is)
          (lists_more c.args.count ps (part_of (get_or nodes s.source zero_node)) (spots (take k ss)) (spots (take (k + 1) ss)) s.source s.start s.len c.loop-k.lists.items w.push_views.new.lists.items (spots_take ss k s c.loop-k-test.true refl) n.part
          (record { many = w.push_views.ensures.many; views = e.views; lists = e.lists }) c.loop-k.invariant)
      | else-span-ne0 w ↦
          lists_same c.args.count ps (spots (take k ss)) (spots (take (k + 1) ss)) c.loop-k.lists.items c.if-span-ne0.lists.items (spots_same ss k s c.loop-k-test.true refl w.if-span-ne0.false) (ap (λ v. v.items) w.lists-is) c.loop-k.invariant
    ]

pub returns-clause-lists : goal.returns-clause-lists
returns-clause-lists c = all_lists c.args.count (parts_of c.args.sources.now) (spots (take c.loop-k.k c.args.places.now)) (spots c.args.places.now) c.loop-k.lists.items (spots_all c.args.places.now c.loop-k.k (omega arith)) c.loop-k.invariant

pub returns-clause-views : goal.returns-clause-views
returns-clause-views c = show_views c.args.count (parts_of c.args.sources.now) (spots (take c.loop-k.k c.args.places.now)) (spots c.args.places.now) c.loop-k.lists.items (spots_all c.args.places.now c.loop-k.k (omega arith)) (c.if-not-are_few.ensures refl) c.loop-k.invariant
