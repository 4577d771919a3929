-- The image at hand lacks nothing, and its step stands behind the others.
use Rattle.std.proofs.Common.{map, ap, ◌∙◌}
use Rattle.std.proofs.lemmas.List.{map_push}
use Rattle.vx_steps.specs.Step.{step_value}
use Rattle.vx_arrow.proofs.FirstLack.{image_lacks}
use Rattle.vx_arrow.proofs.MeantSteps.{read_next}
use Rattle.vx_arrow.proofs.reading.steps_of.Goals as goal

pub step-requires : goal.step-requires
step-requires c = image_lacks c.args.images.now c.loop-image.image-index _ c.requires c.loop-image-test.true

pub loop-image-preserved : goal.loop-image-preserved
loop-image-preserved c =
    let before = c.loop-image.steps.items in let s = c.in_ok-step.field-0 in
    ap (map step_value) c.in_ok-push.ensures.items ∙ map_push step_value before s
    ∙ read_next c.args.images.now c.loop-image.image-index _ (map step_value before) (step_value s) c.loop-image.invariant c.loop-image-test.true c.in_ok-step.ensures
