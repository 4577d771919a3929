-- What a take leaves.
use Rattle.std.proofs.Common.{◌≡◌, true, sym, ◌∙◌, subst}
use Rattle.vx_steps.specs.Step.{StepValue}
use Rattle.vx_arrow.specs.Known.{Leaves, are_positions}
use Rattle.vx_arrow.specs.declared.known.KnownPicks.TheVariants as variants
use Rattle.vx_arrow.proofs.KnownLists.{numbers_leave}
use Rattle.vx_arrow.proofs.known.take_picks.Goals as goal

pub returns-clause-picks : goal.returns-clause-picks
returns-clause-picks c =
    let t = c.in_ok-numbers.numbers in
    let n = c.in_ok-numbers.ensures.numbers in
    let all : are_positions c.args.rows t ≡ true = sym c.are_positions.ensures ∙ c.if-not-are_positions.false in
    subst (λ (s : StepValue). Leaves c.args.rows s (variants.Numbers t)) (sym n.means) (numbers_leave c.args.rows t n.held all)
