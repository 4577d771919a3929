use Rattle.std.proofs.Common.{ap, ◌∙◌}
use Rattle.std.proofs.lemmas.List.{take_all}
use Rattle.vx_take.specs.Picks.{in_runs}
use Rattle.vx_take.proofs.slices.gather_runs.Goals as goal

pub loop-run-init : goal.loop-run-init
loop-run-init g c = c.in_ok-items.ensures.items

pub returns : goal.returns
returns g c =
    c.loop-run.invariant ∙ ap (in_runs c.args.src.now) (take_all c.loop-run.run-index c.args.runs.now c.loop-run-test.false)
