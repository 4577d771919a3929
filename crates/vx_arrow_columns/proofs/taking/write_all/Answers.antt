-- One room more.
use Rattle.std.proofs.Common.{◌<◌, length, ◌∙◌, refl, arith}
use Rattle.std.proofs.lemmas.List.{length-map}
use Rattle.vx_arrow_image.specs.Image.{part_of, parts_of}
use Rattle.vx_arrow_columns.specs.Picks.{picking_of}
use Rattle.vx_arrow_columns.proofs.Plans.{planned_needs, planned_picks}
use Rattle.vx_arrow_columns.proofs.KeptLists.{room_kept}
use Rattle.vx_arrow_columns.proofs.Takings.{all_read, all_taken, job_fits, node_readable, node_taken, own_from}
use Rattle.vx_arrow_columns.proofs.RoomBytes.{all_bytes, job_listed, node_bytes, node_need, same_need}
use Rattle.vx_arrow_columns.proofs.taking.write_all.Goals as goal

pub index-requires-in-loop-i : goal.index-requires-in-loop-i
index-requires-in-loop-i c =
    let nodes = c.args.nodes.now in
    omega (arith, planned_needs (parts_of nodes) c.args.places.now c.args.valid.now c.args.plan.now c.requires.planned, length-map nodes part_of, c.loop-i-test.true)

pub write_room-requires-clause-listed : goal.write_room-requires-clause-listed
write_room-requires-clause-listed c = job_listed c.args.nodes.now c.args.places.now c.args.valid.now c.args.plan.now c.loop-i.i c.deref.result.now c.index.result.now c.loop-i-test.true c.deref.ensures.value c.index.ensures c.requires.planned

pub write_room-requires-clause-readable : goal.write_room-requires-clause-readable
write_room-requires-clause-readable c bare =
    let own = own_from c.args.nodes.now c.args.places.now c.args.valid.now c.args.plan.now c.loop-i.i c.deref.result.now c.index.result.now _ c.loop-i-test.true c.deref.ensures.value c.index.ensures refl in
    node_readable c.args.nodes.now c.args.places.now c.args.valid.now c.args.plan.now c.loop-i.i _ _ c.requires.planned own bare

pub write_room-requires-clause-fits : goal.write_room-requires-clause-fits
write_room-requires-clause-fits c = job_fits c.args.nodes.now c.args.places.now c.args.valid.now c.args.plan.now c.loop-i.i c.deref.result.now c.index.result.now _ c.loop-i-test.true c.deref.ensures.value c.index.ensures c.requires.planned

pub write_room-requires-clause-need : goal.write_room-requires-clause-need
write_room-requires-clause-need c =
    let own = own_from c.args.nodes.now c.args.places.now c.args.valid.now c.args.plan.now c.loop-i.i c.deref.result.now c.index.result.now _ c.loop-i-test.true c.deref.ensures.value c.index.ensures refl in
    c.index-in-loop-i.ensures ∙ node_need c.args.nodes.now c.args.places.now c.args.valid.now c.args.plan.now c.loop-i.i _ _ _ c.requires.planned own

pub write_room-requires-clause-room : goal.write_room-requires-clause-room
write_room-requires-clause-room c =
    let in_rooms : c.loop-i.i < length c.loop-i.rooms = omega (arith, c.loop-i.auto.rooms, c.requires.rooms, c.loop-i-test.true) in
    same_need _ _ c.loop-i.rooms c.loop-i.i _ c.index-in-loop-i.ensures (c.loop-i.invariant.taken.room c.loop-i.i c.index-in-loop-i.result.now _ (omega arith) in_rooms)

pub loop-i-preserved : goal.loop-i-preserved
loop-i-preserved c =
    let own = own_from c.args.nodes.now c.args.places.now c.args.valid.now c.args.plan.now c.loop-i.i c.deref.result.now c.index.result.now _ c.loop-i-test.true c.deref.ensures.value c.index.ensures refl in
    let in_rooms : c.loop-i.i < length c.loop-i.rooms = omega (arith, c.loop-i.auto.rooms, c.requires.rooms, c.loop-i-test.true) in
    record {
      taken = node_taken c.args.nodes.now c.args.places.now c.args.valid.now c.args.plan.now c.loop-i.rooms c.write_room.new.room c.loop-i.i _ _ c.requires.planned own in_rooms c.write_room.ensures.taken c.loop-i.invariant.taken;
      bytes = node_bytes c.args.nodes.now c.args.places.now c.args.valid.now c.args.plan.now c.args.rooms.now c.loop-i.rooms c.write_room.new.room _ c.loop-i.i _ _ c.requires.planned own in_rooms c.write_room.ensures.bytes c.loop-i.invariant.bytes;
      lists = room_kept c.args.rooms.now c.loop-i.rooms c.loop-i.i _ c.write_room.new.room in_rooms c.write_room.ensures.lists c.loop-i.invariant.lists;
    }

pub returns-clause-lists : goal.returns-clause-lists
returns-clause-lists c = c.loop-i.invariant.lists

pub returns-clause-taken : goal.returns-clause-taken
returns-clause-taken c =
    let nodes = c.args.nodes.now in
    let same = length-map nodes part_of in
    all_taken (parts_of nodes) (picking_of c.args.places.now c.args.valid.now 0) c.args.plan.now.needs.items c.loop-i.i c.loop-i.rooms c.requires.planned.tree
    (planned_picks (parts_of nodes) c.args.places.now c.args.valid.now c.args.plan.now c.requires.planned) (omega (arith, c.loop-i.auto.rooms, c.requires.rooms)) (omega arith)
    (all_read (parts_of nodes) c.args.places.now c.args.valid.now c.args.plan.now c.requires.planned) c.loop-i.invariant.taken

pub returns-clause-bytes : goal.returns-clause-bytes
returns-clause-bytes c =
    let nodes = c.args.nodes.now in
    let same = length-map nodes part_of in
    all_bytes (parts_of nodes) (picking_of c.args.places.now c.args.valid.now 0) c.loop-i.i c.args.rooms.now c.loop-i.rooms (omega arith) c.loop-i.invariant.bytes
