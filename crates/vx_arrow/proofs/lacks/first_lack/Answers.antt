-- The image at hand.
use Rattle.std.proofs.Common.{sym, ◌∙◌}
use Rattle.vx_arrow.proofs.FirstLack.{found_at, passed_at}
use Rattle.vx_arrow.proofs.lacks.first_lack.Goals as goal

pub returns-in-Some : goal.returns-in-Some
returns-in-Some c = found_at c.args.steps.now c.loop-step.step _ c.in-Some.lack c.loop-step.invariant c.loop-step-test.true (sym c.in-Some.is ∙ c.lack.ensures)

pub loop-step-preserved : goal.loop-step-preserved
loop-step-preserved c = passed_at c.args.steps.now c.loop-step.step _ c.loop-step.invariant c.loop-step-test.true (sym c.in_default.is ∙ c.lack.ensures)
