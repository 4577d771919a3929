-- The rows that are written are the answer.
use Rattle.std.proofs.Common.{[], ◌∷◌, map, refl, subst, sym}
use Rattle.vx_arrow.specs.Image.{step_parts}
use Rattle.vx_arrow.specs.Known.{IsAlone}
use Rattle.vx_arrow.proofs.KnownLists.{some_is}
use Rattle.vx_arrow_image.specs.declared.image.Need.{Need}
use Rattle.vx_arrow_select.specs.Selected.{AreNeeds}
use Rattle.vx_arrow_flat.proofs.Flats.{answer_of_one, filled_of_one, needs_of_one}
use Rattle.vx_arrow_flat.proofs.selecting.select_flat.Goals as goal

pub returns-clause-answer : goal.returns-clause-answer
returns-clause-answer c =
    answer_of_one c.args.nodes.now _ (map step_parts c.args.steps.now) c.in-Some.picks c.args.room.now _ c.if-nodes-ne1.false (c.has_values.ensures.values c.if-not-has_values.false) (c.has_room.ensures.room c.if-not-has_room.false) c.write_picks.auto.out
    (some_is c.in_ok-picks.field-0 c.in-Some.picks (IsAlone _ (map step_parts c.args.steps.now)) c.in-Some.is c.in_ok-picks.ensures.alone)
    c.write_picks.ensures

pub returns-clause-need : goal.returns-clause-need
returns-clause-need c =
    subst (λ (n : Need). AreNeeds c.args.nodes.now (map step_parts c.args.steps.now) (n ∷ [])) (sym c.need_for.ensures)
    (needs_of_one c.args.nodes.now _ (map step_parts c.args.steps.now) c.in-Some.picks c.if-nodes-ne1.false (c.has_values.ensures.values c.if-not-has_values.false)
    (some_is c.in_ok-picks.field-0 c.in-Some.picks (IsAlone _ (map step_parts c.args.steps.now)) c.in-Some.is c.in_ok-picks.ensures.alone))

pub returns-clause-filled : goal.returns-clause-filled
returns-clause-filled c =
    filled_of_one c.args.nodes.now _ (map step_parts c.args.steps.now) c.in-Some.picks c.args.room.now _ c.if-nodes-ne1.false (c.has_values.ensures.values c.if-not-has_values.false) (c.has_room.ensures.room c.if-not-has_room.false) c.write_picks.auto.out
    (some_is c.in_ok-picks.field-0 c.in-Some.picks (IsAlone _ (map step_parts c.args.steps.now)) c.in-Some.is c.in_ok-picks.ensures.alone)
    c.write_picks.ensures refl refl refl
