-- No null comes in where the indices and the picks before have none.
use Rattle.std.proofs.Common.{◌∙◌, ap, subst, sym, length}
use Rattle.vx_take.specs.Picks.{AreBelow}
use Rattle.vx_positions.specs.Positions.{AllThere}
use Rattle.vx_steps.specs.Compose.{picks_in}
use Rattle.vx_steps.proofs.ComposedPicks.{there-at}
use Rattle.vx_steps.proofs.composed.Composed.take.Goals as goal

pub returns-clause-there : goal.returns-clause-there
returns-clause-there c = λ none there.
    let picks = picks_in c.args.self in let later = c.in_ok-later.later.picks in
    let below : AreBelow later (length picks) = subst (AreBelow later) (c.bound.ensures.value ∙ ap (λ p. p.bound) c.in_ok-later.ensures.picks ∙ c.len.ensures) c.bound.ensures.below in
    subst AllThere (sym (ap (λ p. p.picks) c.in_ok-named_by.ensures)) (there-at picks later there (c.in_ok-later.ensures.there none) below)
