-- What a slice leaves.
use Rattle.std.proofs.Common.{◌≡◌, ◌-◌, ap, sym, subst, arith}
use Rattle.vx_steps.specs.Step.{StepValue, slice_step}
use Rattle.vx_arrow.specs.Image.{step_by, step_in, step_parts}
use Rattle.vx_arrow.specs.Known.{Leaves}
use Rattle.vx_arrow.specs.declared.known.KnownPicks.TheVariants as variants
use Rattle.vx_arrow.proofs.KnownLists.{range_leaves}
use Rattle.vx_arrow.proofs.known.slice_picks.Goals as goal

pub returns-clause-picks : goal.returns-clause-picks
returns-clause-picks c =
    let image = c.args.image.now in
    let means : step_in (step_parts image) ≡ slice_step image.start image.end = ap (λ k. step_by k (step_parts image)) c.requires in
    subst (λ (s : StepValue). Leaves c.args.rows s (variants.Range image.start (image.end - image.start))) (sym means)
    (range_leaves c.args.rows image.start image.end (omega arith) (omega arith))
