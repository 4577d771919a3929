-- What one row more shows.
use Rattle.std.proofs.Common.{◌≡◌, ◌+◌, ◌-◌, ◌*◌, ◌≤◌, length, ap, sym, ◌∙◌, subst, ℕ, arith}
use Rattle.vx_arrow_image.specs.Image.{part_of}
use Rattle.vx_arrow_interleave.specs.TextViews.{HoldsView, list_at}
use Rattle.vx_arrow_interleave.proofs.ShownViews.{null_view, shown_more, shown_null}
use Rattle.vx_arrow_interleave.proofs.text_views.push_views.Goals as goal
use Rattle.vx_arrow_interleave.proofs.text_views.push_views.Goals.{then-is_there+in_ok-push_view, else-is_there}

pub loop-i-preserved : goal.loop-i-preserved
loop-i-preserved c =
    let p = part_of c.args.node.now in
    let s = c.args.span.source in
    let start = c.args.span.start in
    let i = c.loop-i.i in
    let low = c.loop-i.auto.i in
    let next : i - start + 1 ≡ i + 1 - start = omega arith in
    let here : start + (i - start) ≡ i = omega arith in
    let old = c.args.lists.now.items in
    let held : 16 * i + 16 ≤ length p.values = omega (arith, c.loop-i-test.true, c.requires.held) in
    elim c.if-is_there.branch [
      | then-is_there+in_ok-push_view w ↦
          shown_more p s start (i - start) (i + 1 - start) i old c.loop-i.lists.items c.if-is_there.lists.items next here
          (ap (λ v. length v.items) w.lists-is ∙ w.push_view.ensures.many)
          (subst (λ (n : ℕ). HoldsView n p i) c.loop-i.invariant.many w.in_ok-push_view.ensures.view)
          (λ j. ap (λ v. list_at v.items j) w.lists-is ∙ w.in_ok-push_view.ensures.lists j) c.loop-i.invariant
      | else-is_there w ↦
          let none = sym c.is_there.ensures ∙ w.if-is_there.false in
          shown_more p s start (i - start) (i + 1 - start) i old c.loop-i.lists.items c.if-is_there.lists.items next here
          (ap (λ v. length v.items) w.lists-is) (null_view (length old) p i held none)
          (shown_null p s i c.loop-i.lists.items c.if-is_there.lists.items (ap (λ v. v.items) w.lists-is) none) c.loop-i.invariant
    ]
