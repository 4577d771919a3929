use Rattle.std.proofs.lemmas.List.Elements.{All-get_or}
use Rattle.std.proofs.lemmas.List.{take_all}
use Rattle.std.specs.List.{flat_map}
use Rattle.std.specs.Prelude.{slice_range}
use Rattle.std.proofs.Common.{◌≤◌, ap, ◌∙◌}
use Rattle.vx_filter.proofs.lists.filter_slice_by_slices.Goals as goal

pub loop-run-init : goal.loop-run-init
loop-run-init g c = c.in_ok-kept.ensures.items

pub push_run-requires-clause-ordered : goal.push_run-requires-clause-ordered
push_run-requires-clause-ordered g c =
    All-get_or (λ run. run.0 ≤ run.1) c.args.slices.now c.loop-run.run-index (0, 0) c.loop-run-test.true c.requires.ordered

pub returns : goal.returns
returns g c =
    c.loop-run.invariant ∙ ap (flat_map (λ run. slice_range c.args.src.now run.0 run.1)) (take_all c.loop-run.run-index c.args.slices.now c.loop-run-test.false)
