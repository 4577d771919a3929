-- Where all positions stand before them, later picks are their own.
use Rattle.std.proofs.Common.{◌≡◌, ◌-◌, ap, ap₂, subst, sym, ◌∙◌, length, arith, refl, None}
use Rattle.vx_take.specs.Picks.{AreBelow, BoundedPicks, at}
use Rattle.vx_steps.specs.Compose.{bound_of, picks_in, range_picks}
use Rattle.vx_steps.proofs.ComposedPicks.{at-whole, length-range_picks}
use Rattle.vx_steps.proofs.composed.Composed.named_by.Goals as goal

pub returns-then-is_whole : goal.returns-then-is_whole
returns-then-is_whole c =
    let before = picks_in c.args.self in let n = bound_of c.args.self in let later = c.args.later.picks in
    let is : before ≡ range_picks 0 n = c.if-is_whole.ensures refl in
    let all : n - 0 ≡ n = omega arith in
    let long : c.args.later.bound ≡ n = c.requires ∙ ap length is ∙ length-range_picks 0 n ∙ all in
    let below : AreBelow later n = subst (AreBelow later) (c.bound.ensures.value ∙ long) c.bound.ensures.below in
    let same : later ≡ at None before later = sym (ap (λ l. at None l later) is ∙ at-whole n later below) in
    ap₂ (λ p b. let u : BoundedPicks = record { picks = p; bound = b } in u) same long
