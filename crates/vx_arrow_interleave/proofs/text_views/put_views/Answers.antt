-- One row more.
use Rattle.std.proofs.Common.{◌≡◌, ◌+◌, ◌*◌, ◌<◌, ◌≤◌, ◌++◌, ◌∷◌, [], ℕ, get_or, length, take, ap, sym, ◌∙◌, refl, subst, arith}
use Rattle.vx_arrow_image.specs.Image.{Part, part_of, parts_of}
use Rattle.vx_arrow_image.proofs.SoundNodes.{zero_node}
use Rattle.vx_arrow_interleave.specs.Sources.{part_at}
use Rattle.vx_arrow_interleave.specs.Spots.{Spot, run_of, spot, spots}
use Rattle.vx_arrow_interleave.specs.TextViews.{HoldsView}
use Rattle.vx_arrow_interleave.proofs.SourceRows.{is_in_node}
use Rattle.vx_arrow_interleave.proofs.SpotLists.{in_span, no_span, spots_take, spots_within}
use Rattle.vx_arrow_interleave.proofs.ViewPuts.{as_views, row_few, span_len, span_more, span_none, views_more}
use Rattle.vx_arrow_interleave.proofs.text_views.put_views.Goals as goal

pub offset_bounds-sources-span : goal.offset_bounds-sources-span
offset_bounds-sources-span c =
    let n = is_in_node c.args.sources.now c.args.places.now c.args.k c.requires.alike c.requires.places c.requires.span c.requires.some in
    omega (arith, n.source)

pub bounds-sources-span : goal.bounds-sources-span
bounds-sources-span c =
    let n = is_in_node c.args.sources.now c.args.places.now c.args.k c.requires.alike c.requires.places c.requires.span c.requires.some in
    n.source

pub loop-i-init : goal.loop-i-init
loop-i-init c =
    let r = get_or c.args.places.now c.args.k no_span in
    let before = spots (take c.args.k c.args.places.now) in
    as_views _ _ before _ _ _ _ _ (span_none before r.source r.start) refl refl c.requires.before

pub overflow_add-start : goal.overflow_add-start
overflow_add-start c =
    let n = is_in_node c.args.sources.now c.args.places.now c.args.k c.requires.alike c.requires.places c.requires.span c.requires.some in
    omega (arith, n.below, n.few, c.loop-i-test.true)

pub overflow_add-first : goal.overflow_add-first
overflow_add-first c =
    let ss = c.args.places.now in
    omega (arith, spots_within ss c.args.k (get_or ss c.args.k no_span) c.requires.span refl, c.requires.first, c.requires.room, c.loop-i-test.true)

pub overflow_mul-first : goal.overflow_mul-first
overflow_mul-first c =
    let ss = c.args.places.now in
    omega (arith, spots_within ss c.args.k (get_or ss c.args.k no_span) c.requires.span refl, c.requires.first, c.requires.room, c.loop-i-test.true)

pub put_view-requires-clause-few : goal.put_view-requires-clause-few
put_view-requires-clause-few c =
    let n = is_in_node c.args.sources.now c.args.places.now c.args.k c.requires.alike c.requires.places c.requires.span c.requires.some in
    omega (arith, n.below, n.few, c.loop-i-test.true)

pub put_view-requires-clause-view : goal.put_view-requires-clause-view
put_view-requires-clause-view c =
    let nodes = c.args.sources.now in
    let ps = parts_of nodes in
    let ss = c.args.places.now in
    let k = c.args.k in
    let r = get_or ss k no_span in
    let n = is_in_node nodes ss k c.requires.alike c.requires.places c.requires.span c.requires.some in
    let view = in_span (λ (s : Spot). HoldsView (length c.args.starts.now) (part_at ps s.source) s.row) ss k c.loop-i.i r c.requires.span refl c.loop-i-test.true c.requires.views.views in
    subst (λ (m : ℕ). HoldsView m (part_of (get_or nodes r.source zero_node)) (r.start + c.loop-i.i)) (sym c.loop-i.auto.starts)
    (subst (λ (p : Part). HoldsView (length c.args.starts.now) p (r.start + c.loop-i.i)) n.part view)

pub put_view-requires-clause-small : goal.put_view-requires-clause-small
put_view-requires-clause-small c = λ j h.
    let nodes = c.args.sources.now in
    let ss = c.args.places.now in
    let k = c.args.k in
    let r = get_or ss k no_span in
    let n = is_in_node nodes ss k c.requires.alike c.requires.places c.requires.span c.requires.some in
    let low : j < length c.args.starts.now = omega (arith, c.loop-i.auto.starts) in
    row_few (length c.args.starts.now) (parts_of nodes) ss k c.loop-i.i j r (part_of (get_or nodes r.source zero_node)) c.loop-i.starts c.loop-i.out c.requires.span refl c.loop-i-test.true low n.part c.requires.views c.loop-i.invariant

pub put_view-requires-clause-room : goal.put_view-requires-clause-room
put_view-requires-clause-room c =
    let ss = c.args.places.now in
    omega (arith, spots_within ss c.args.k (get_or ss c.args.k no_span) c.requires.span refl, c.requires.first, c.requires.room, c.loop-i-test.true, c.loop-i.auto.out)

pub loop-i-preserved : goal.loop-i-preserved
loop-i-preserved c =
    let nodes = c.args.sources.now in
    let ps = parts_of nodes in
    let ss = c.args.places.now in
    let k = c.args.k in
    let i = c.loop-i.i in
    let r = get_or ss k no_span in
    let m = length c.args.starts.now in
    let p = part_of (get_or nodes r.source zero_node) in
    let n = is_in_node nodes ss k c.requires.alike c.requires.places c.requires.span c.requires.some in
    let before = spots (take k ss) in
    let view = in_span (λ (s : Spot). HoldsView m (part_at ps s.source) s.row) ss k i r c.requires.span refl c.loop-i-test.true c.requires.views.views in
    let room : 16 * (c.args.first + i) + 16 ≤ length c.loop-i.out = omega (arith, spots_within ss k r c.requires.span refl, c.requires.first, c.requires.room, c.loop-i-test.true, c.loop-i.auto.out) in
    let e = c.put_view.ensures in
    as_views m ps ((before ++ run_of r.source r.start i) ++ spot r.source (r.start + i) ∷ []) (before ++ run_of r.source r.start (i + 1)) c.put_view.new.starts c.put_view.new.starts c.put_view.new.out c.put_view.new.out (span_more before r.source r.start i) refl refl
    (views_more m ps (before ++ run_of r.source r.start i) r.source (r.start + i) (16 * (c.args.first + i)) p c.loop-i.starts c.put_view.new.starts c.loop-i.out c.put_view.new.out n.part (span_len before r.source r.start i c.args.first c.requires.first) room
    (subst (λ (q : Part). HoldsView m q (r.start + i)) n.part view) e.before e.view (λ j h. e.starts j (omega (arith, c.loop-i.auto.starts))) c.loop-i.invariant)

pub returns-clause-views : goal.returns-clause-views
returns-clause-views c =
    let ps = parts_of c.args.sources.now in
    let ss = c.args.places.now in
    let k = c.args.k in
    let r = get_or ss k no_span in
    let all : c.loop-i.i ≡ r.len = omega (arith, c.loop-i-test.false, c.loop-i.auto.i-end) in
    as_views (length c.args.starts.now) ps (spots (take k ss) ++ run_of r.source r.start c.loop-i.i) (spots (take (k + 1) ss)) c.loop-i.starts c.loop-i.starts c.loop-i.out c.loop-i.out
    (spots_take ss k r c.requires.span refl ∙ ap (λ (n : ℕ). spots (take k ss) ++ run_of r.source r.start n) (sym all)) refl refl c.loop-i.invariant
