-- What the rooms hold, and what is told.
use Rattle.std.proofs.Common.{◌∙◌, List, ap, arith, length, subst}
use Rattle.std.proofs.lemmas.List.{length-map}
use Rattle.std.proofs.lemmas.Result.{err_from_is_err_and}
use Rattle.vx_arrow_image.specs.declared.image.Need.{Need}
use Rattle.vx_arrow_image.specs.Image.{parts_of}
use Rattle.vx_arrow_columns.specs.Answer.{HaveRoom}
use Rattle.vx_arrow_interleave.specs.declared.sources.Group.{Group}
use Rattle.vx_arrow_interleave.specs.Planned.{groups_of, sources_in}
use Rattle.vx_arrow_interleave.specs.Spots.{spots}
use Rattle.vx_arrow_interleave.proofs.Gathering.{of_plan, planned_gathered, untold}
use Rattle.vx_arrow_interleave.proofs.RoomBytes.{planned_needs}
use Rattle.vx_arrow_interleave.proofs.interleaving.interleave.Goals as goal

pub returns-in_err-plan-clause-refused : goal.returns-in_err-plan-clause-refused
returns-in_err-plan-clause-refused c =
    let r = err_from_is_err_and c.from_residual.result c.from_residual.ensures.1 in
    rw (r.1, r.2) (of_plan (groups_of c.args.groups.now) (spots c.args.spans.now) (length c.args.needs.now) c.args.rooms.now _ c.in_err-plan.ensures.refused)

pub returns-in_err-plan-clause-told : goal.returns-in_err-plan-clause-told
returns-in_err-plan-clause-told c =
    let r = err_from_is_err_and c.from_residual.result c.from_residual.ensures.1 in
    rw (r.1, r.2) (untold (groups_of c.args.groups.now) (spots c.args.spans.now) c.args.needs.now (length c.args.rooms.now) _ c.in_err-plan.ensures.refused)

pub copy_from_slice-requires : goal.copy_from_slice-requires
copy_from_slice-requires c =
    let count = planned_needs _ c.args.groups.now (spots c.args.spans.now) c.in_ok-plan.plan c.in_ok-plan.ensures.planned in
    omega (arith, count, c.if-needs-groups.false, ap length c.deref.ensures.value)

pub returns-clause-meaning : goal.returns-clause-meaning
returns-clause-meaning c =
    let groups = c.args.groups.now in
    let rooms = c.args.rooms.now in
    let count = length-map groups (λ (g : Group). parts_of g.nodes.now) in
    planned_gathered (sources_in groups) (groups_of groups) (spots c.args.spans.now) c.in_ok-plan.plan rooms c.write_all.new.rooms c.in_ok-plan.ensures.planned
    (omega (arith, count, c.if-rooms-groups.false)) c.write_all.ensures.lists.many
    (subst (λ (n : List Need). HaveRoom n rooms) (c.copy_from_slice.ensures.after ∙ c.deref.ensures.value) c.in_default.ensures.none) c.write_all.ensures.bytes
