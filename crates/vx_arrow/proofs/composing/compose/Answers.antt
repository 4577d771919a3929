-- A refusal before any rule is tested, and picks that are known.
use Rattle.std.proofs.Common.{◌≡◌, ℕ, map, length, ap, sym, subst, ◌∙◌}
use Rattle.vx_types.specs.declared.nullability.Nullability.TheVariants.{NonNullable}
use Rattle.vx_arrow.specs.Answer.{HasNeed, IfPicks, IsRefusal, IsShort, walk_in}
use Rattle.vx_arrow.specs.Image.{step_parts}
use Rattle.vx_arrow.specs.Known.{IsAlone, places_of}
use Rattle.vx_arrow.specs.Written.{AreShown, need_of}
use Rattle.vx_arrow.specs.declared.need.Need.{Need}
use Rattle.vx_arrow.proofs.KnownLists.{some_is, alone_need, alone_placed, alone_shown}
use Rattle.vx_arrow.proofs.Refusals.{unread}
use Rattle.vx_arrow.proofs.composing.compose.Goals as goal
use Rattle.vx_lemmas.proofs.Results.{err_is}

pub returns-in_err-steps-clause-fault : goal.returns-in_err-steps-clause-fault
returns-in_err-steps-clause-fault c =
    let steps = map step_parts c.args.steps.now in
    err_is c.from_residual-in_err-steps.result c.in_err-steps.field-0.0 (IsRefusal c.args.len steps (IsShort c.args.len steps (length c.args.places.now) (length c.args.valid.now))) c.from_residual-in_err-steps.ensures.1
    (unread c.args.len steps (IsShort c.args.len steps (length c.args.places.now) (length c.args.valid.now)) c.in_err-steps.field-0.0 c.in_err-steps.ensures.fault)

pub returns-then-not-has_room-clause-fault : goal.returns-then-not-has_room-clause-fault
returns-then-not-has_room-clause-fault c =
    let steps = map step_parts c.args.steps.now in
    let is : c.of-need.result ≡ need_of (length (places_of c.in-Some.picks)) NonNullable = c.of-need.ensures ∙ ap (λ (n : ℕ). need_of n NonNullable) c.len.ensures in
    record {
      meant = (some_is c.in_ok-picks.field-0 c.in-Some.picks (IsAlone c.args.len (map step_parts c.args.steps.now)) c.in-Some.is c.in_ok-picks.ensures.alone).meant;
      needed = subst (λ (need : Need). HasNeed c.args.len steps need) (sym is) (alone_need c.args.len steps c.in-Some.picks (some_is c.in_ok-picks.field-0 c.in-Some.picks (IsAlone c.args.len (map step_parts c.args.steps.now)) c.in-Some.is c.in_ok-picks.ensures.alone));
      short = sym c.if-not-has_room.ensures;
    }

pub returns-in-Some-clause-need : goal.returns-in-Some-clause-need
returns-in-Some-clause-need c =
    let steps = map step_parts c.args.steps.now in
    let is : c.of-need.result ≡ need_of (length (places_of c.in-Some.picks)) NonNullable = c.of-need.ensures ∙ ap (λ (n : ℕ). need_of n NonNullable) c.len.ensures in
    subst (λ (need : Need). HasNeed c.args.len steps need) (sym is) (alone_need c.args.len steps c.in-Some.picks (some_is c.in_ok-picks.field-0 c.in-Some.picks (IsAlone c.args.len (map step_parts c.args.steps.now)) c.in-Some.is c.in_ok-picks.ensures.alone))

pub returns-in-Some-clause-places : goal.returns-in-Some-clause-places
returns-in-Some-clause-places c =
    alone_placed c.args.len (map step_parts c.args.steps.now) c.in-Some.picks (some_is c.in_ok-picks.field-0 c.in-Some.picks (IsAlone c.args.len (map step_parts c.args.steps.now)) c.in-Some.is c.in_ok-picks.ensures.alone) c.args.places.now c.write.new.places c.write.ensures

pub returns-in-Some-clause-valid : goal.returns-in-Some-clause-valid
returns-in-Some-clause-valid c =
    let steps = map step_parts c.args.steps.now in
    let none : 0 ≡ c.of-need.result.valid = sym (ap (λ (need : Need). need.valid) (c.of-need.ensures ∙ ap (λ (n : ℕ). need_of n NonNullable) c.len.ensures)) in
    subst (λ (n : ℕ). IfPicks (walk_in c.args.len steps) (λ ps. AreShown n ps c.args.valid.now c.args.valid.now)) none
    (alone_shown c.args.len steps c.in-Some.picks (some_is c.in_ok-picks.field-0 c.in-Some.picks (IsAlone c.args.len (map step_parts c.args.steps.now)) c.in-Some.is c.in_ok-picks.ensures.alone) c.args.valid.now)
