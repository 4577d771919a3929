-- The items of one row more.
use Rattle.std.proofs.Common.{◌≡◌, ◌+◌, ◌-◌, ap, sym, ◌∙◌, refl, arith}
use Rattle.vx_arrow_image.specs.Image.{part_of}
use Rattle.vx_arrow_interleave.specs.Spots.{spots}
use Rattle.vx_arrow_interleave.proofs.SpotItems.{rows_null, rows_some}
use Rattle.vx_arrow_interleave.proofs.items.push_items.Goals as goal
use Rattle.vx_arrow_interleave.proofs.items.push_items.Goals.{then-is_there+in_ok-cut+else-sum-limit+in_ok-push_span, else-is_there}

pub loop-i-preserved : goal.loop-i-preserved
loop-i-preserved c =
    let z = c.args.size in
    let p = part_of c.args.node.now in
    let start = c.args.span.start in
    let i = c.loop-i.i in
    let low = c.loop-i.auto.i in
    let next : i - start + 1 ≡ i + 1 - start = omega arith in
    let here : start + (i - start) ≡ i = omega arith in
    elim c.if-is_there.branch [
      | then-is_there+in_ok-cut+else-sum-limit+in_ok-push_span w ↦
          rows_some c.args.texts z p c.args.span.source start (i - start) (i + 1 - start) i c.args.total c.loop-i.sum c.if-is_there.sum w.in_ok-cut.cut.start w.in_ok-cut.cut.end (w.in_ok-cut.cut.end - w.in_ok-cut.cut.start)
          (spots c.args.list.now.items) (spots c.loop-i.list.items) (spots c.if-is_there.list.items) next here (sym c.is_there.ensures ∙ w.if-is_there.true) w.in_ok-cut.ensures.start w.in_ok-cut.ensures.end refl
          (ap (λ v. spots v.items) w.list-is ∙ w.in_ok-push_span.ensures) w.sum-is (omega (arith, w.sum-is, w.if-sum-limit.false, w.limit.ensures)) w.in_ok-cut.ensures.cut c.loop-i.invariant
      | else-is_there w ↦
          rows_null c.args.texts z p c.args.span.source start (i - start) (i + 1 - start) i c.args.total c.loop-i.sum c.if-is_there.sum
          (spots c.args.list.now.items) (spots c.loop-i.list.items) (spots c.if-is_there.list.items) next here (sym c.is_there.ensures ∙ w.if-is_there.false)
          (ap (λ v. spots v.items) w.list-is) w.sum-is c.loop-i.invariant
    ]
