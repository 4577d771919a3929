-- A part of picks that are all there is all there.
use Rattle.std.proofs.Common.{◌^◌, ◌<◌, length, ap, sym, subst, arith}
use Rattle.vx_positions.specs.Positions.{AllThere}
use Rattle.vx_take.specs.Picks.{BoundedPicks}
use Rattle.vx_steps.specs.Compose.{IsCounted, picks_in}
use Rattle.vx_steps.proofs.ComposedPicks.{there-slice}
use Rattle.vx_steps.proofs.composing.compose_part.Goals as goal

pub returns-clause-there : goal.returns-clause-there
returns-clause-there c = λ none.
    let is = ap (λ (p : BoundedPicks). p.picks) c.in_ok-into_part.ensures in
    subst AllThere (sym is) (there-slice (picks_in c.in_ok-composed.composed) c.args.start c.args.end (c.in_ok-composed.ensures.there none))

pub returns-clause-counted : goal.returns-clause-counted
returns-clause-counted c =
    let few : length (picks_in c.in_ok-composed.composed) < 2 ^ 64 = omega (arith, c.len.ensures, c.len.type_inv) in
    subst IsCounted (sym c.in_ok-composed.ensures.picks) few
