-- The parts' own steps break no rule, and what they answer is put together.
use Rattle.std.proofs.Common.{ℕ, List, map, ◌∙◌, subst}
use Rattle.vx_interleave.specs.Sources.{rows_of}
use Rattle.vx_steps.specs.Step.{step_value}
use Rattle.vx_steps.specs.Walk.{walk}
use Rattle.vx_steps.specs.Compose.{IsUnbroken}
use Rattle.vx_parts.specs.Plan.{IsPlan}
use Rattle.vx_parts.proofs.OwnFit.{own_unbroken}
use Rattle.vx_parts.proofs.selecting.select_sound.Goals as goal

pub part_answers-requires-clause-unbroken : goal.part_answers-requires-clause-unbroken
part_answers-requires-clause-unbroken c =
    let ss = map step_value c.args.steps.now in let plan = c.in_ok-plan.plan in
    let planned = subst (λ (ns : List ℕ). IsPlan ns ss plan) (c.deref.ensures.value ∙ c.in_ok-lengths.ensures) c.in_ok-plan.ensures in
    own_unbroken (rows_of c.args.parts.now) ss plan planned (subst (λ (n : ℕ). IsUnbroken (walk n ss)) c.requires.len c.requires.unbroken)
