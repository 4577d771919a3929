-- The only need and the only room are set.
use Rattle.std.proofs.Common.{[], ◌∷◌, arith, map, rules, subst, sym}
use Rattle.vx_arrow.specs.Image.{step_parts}
use Rattle.vx_arrow_columns.proofs.KeptLists.{room_kept}
use Rattle.vx_arrow_select.specs.Selected.{AreNeeds}
use Rattle.vx_arrow_flat.proofs.Flats.{same_lists, set_only}
use Rattle.vx_arrow_flat.proofs.selecting.select_one.Goals as goal

pub returns-in-Ok-Some-clause-needs : goal.returns-in-Ok-Some-clause-needs
returns-in-Ok-Some-clause-needs c done =
    let needed : AreNeeds c.args.nodes.now (map step_parts c.args.steps.now) (c.in-Ok-Some.need ∷ []) = search rules in
    subst (AreNeeds c.args.nodes.now (map step_parts c.args.steps.now)) (sym (set_only c.args.needs.now c.in-Ok-Some.need (omega (arith, c.if-needs-ne1.false)))) needed

pub returns-in-Ok-Some-clause-lists : goal.returns-in-Ok-Some-clause-lists
returns-in-Ok-Some-clause-lists c = room_kept c.args.rooms.now c.args.rooms.now 0 _ c.select_flat.new.room (omega (arith, c.if-rooms-ne1.false)) c.select_flat.ensures.lists (same_lists c.args.rooms.now)
