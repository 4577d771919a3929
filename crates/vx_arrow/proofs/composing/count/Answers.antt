-- A refusal before any rule is tested.
use Rattle.std.proofs.Common.{◌≡◌, ℕ, map, length, ap, sym, subst, ◌∙◌}
use Rattle.vx_types.specs.declared.nullability.Nullability.TheVariants.{NonNullable}
use Rattle.vx_arrow.specs.Answer.{HasNeed, IsRefusal}
use Rattle.vx_arrow.specs.Image.{step_parts}
use Rattle.vx_arrow.specs.Known.{IsAlone, places_of}
use Rattle.vx_arrow.specs.Written.{need_of}
use Rattle.vx_arrow.specs.declared.need.Need.{Need}
use Rattle.vx_arrow.proofs.KnownLists.{some_is, alone_need}
use Rattle.vx_arrow.proofs.Refusals.{unread}
use Rattle.vx_arrow.proofs.composing.count.Goals as goal
use Rattle.vx_lemmas.proofs.Results.{err_is}

pub returns-in_err-steps-clause-fault : goal.returns-in_err-steps-clause-fault
returns-in_err-steps-clause-fault c =
    let steps = map step_parts c.args.steps.now in
    err_is c.from_residual-in_err-steps.result c.in_err-steps.field-0.0 (IsRefusal c.args.len steps (λ _. ⊥)) c.from_residual-in_err-steps.ensures.1
    (unread c.args.len steps (λ _. ⊥) c.in_err-steps.field-0.0 c.in_err-steps.ensures.fault)

pub returns-in-Some-clause-need : goal.returns-in-Some-clause-need
returns-in-Some-clause-need c =
    let steps = map step_parts c.args.steps.now in
    let is : c.of.result ≡ need_of (length (places_of c.in-Some.picks)) NonNullable = c.of.ensures ∙ ap (λ (n : ℕ). need_of n NonNullable) c.len.ensures in
    subst (λ (need : Need). HasNeed c.args.len steps need) (sym is) (alone_need c.args.len steps c.in-Some.picks (some_is c.in_ok-picks.field-0 c.in-Some.picks (IsAlone c.args.len (map step_parts c.args.steps.now)) c.in-Some.is c.in_ok-picks.ensures.alone))
