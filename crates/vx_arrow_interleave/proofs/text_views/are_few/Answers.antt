-- One list more.
use Rattle.std.proofs.Common.{◌≡◌, ◌<◌, ◌^◌, ℕ, length, ap, subst, refl, inl, inr, arith}
use Rattle.std.proofs.lemmas.Bool.{cases_eq}
use Rattle.vx_arrow_interleave.specs.TextViews.{list_at}
use Rattle.vx_arrow_interleave.proofs.ShownViews.{list_of}
use Rattle.vx_arrow_interleave.proofs.text_views.are_few.Goals as goal

pub loop-j-preserved : goal.loop-j-preserved
loop-j-preserved c = λ j h.
    let vs = c.args.lists.now.items in
    let inside : c.loop-j.j < length vs = omega (arith, c.loop-j-test.true, c.len-j-end.ensures) in
    let own = ap length (list_of vs c.loop-j.j c.index.result.now inside c.index.ensures) in
    elim (cases_eq j c.loop-j.j) as (λ _. length (list_at vs j) < 2 ^ 31) [
      | inl same ↦ subst (λ (m : ℕ). length (list_at vs m) < 2 ^ 31) (let f : c.loop-j.j ≡ j = omega arith in f) (omega (arith, own, c.if-not-is_few.ensures refl))
      | inr other ↦ c.loop-j.invariant j (omega arith)
    ]
