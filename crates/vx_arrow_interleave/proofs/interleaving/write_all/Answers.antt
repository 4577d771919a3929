-- One room more.
use Rattle.std.proofs.Common.{◌<◌, length, arith}
use Rattle.vx_arrow_columns.proofs.KeptLists.{room_kept}
use Rattle.vx_arrow_interleave.specs.Planned.{sources_in}
use Rattle.vx_arrow_interleave.specs.Spots.{spots}
use Rattle.vx_arrow_interleave.proofs.RoomBytes.{all_bytes, done_writable, more_bytes, no_bytes, no_kept, own_done, planned_needs, still_room}
use Rattle.vx_arrow_interleave.proofs.interleaving.write_all.Goals as goal

pub loop-i-init : goal.loop-i-init
loop-i-init c = record { bytes = no_bytes _ _ c.args.rooms.now; lists = no_kept c.args.rooms.now }

pub index-requires-in-loop-i : goal.index-requires-in-loop-i
index-requires-in-loop-i c = omega (arith, planned_needs _ c.args.groups.now (spots c.args.spans.now) c.args.plan.now c.requires.planned, c.loop-i-test.true)

pub write_room-requires-clause-done : goal.write_room-requires-clause-done
write_room-requires-clause-done c =
    done_writable (sources_in c.args.groups.now) _ _ c.index-in-loop-i.result.now
    (own_done (sources_in c.args.groups.now) c.args.groups.now (spots c.args.spans.now) c.args.plan.now c.loop-i.i _ c.index.result.now c.index-in-loop-i.result.now c.requires.planned c.loop-i-test.true c.index.ensures c.index-in-loop-i.ensures)

pub write_room-requires-clause-need : goal.write_room-requires-clause-need
write_room-requires-clause-need c =
    let done = own_done (sources_in c.args.groups.now) c.args.groups.now (spots c.args.spans.now) c.args.plan.now c.loop-i.i _ c.index.result.now c.index-in-loop-i.result.now c.requires.planned c.loop-i-test.true c.index.ensures c.index-in-loop-i.ensures in
    done.asked

pub write_room-requires-clause-room : goal.write_room-requires-clause-room
write_room-requires-clause-room c = still_room _ _ c.args.plan.now.needs.items c.args.rooms.now c.loop-i.rooms c.loop-i.i c.index-in-loop-i.result.now _ c.index-in-loop-i.ensures (omega (arith, c.requires.rooms, c.loop-i-test.true)) c.requires.room c.loop-i.invariant.bytes

pub loop-i-preserved : goal.loop-i-preserved
loop-i-preserved c =
    let in_rooms : c.loop-i.i < length c.loop-i.rooms = omega (arith, c.loop-i.auto.rooms, c.requires.rooms, c.loop-i-test.true) in
    record {
      bytes = more_bytes (sources_in c.args.groups.now) c.args.groups.now (spots c.args.spans.now) c.args.plan.now c.loop-i.i _ c.index.result.now c.args.rooms.now c.loop-i.rooms c.write_room.new.room _ c.requires.planned c.loop-i-test.true c.index.ensures in_rooms c.write_room.ensures.bytes c.loop-i.invariant.bytes;
      lists = room_kept c.args.rooms.now c.loop-i.rooms c.loop-i.i _ c.write_room.new.room in_rooms c.write_room.ensures.lists c.loop-i.invariant.lists;
    }

pub returns-clause-bytes : goal.returns-clause-bytes
returns-clause-bytes c = all_bytes c.args.groups.now (spots c.args.spans.now) c.loop-i.i c.args.rooms.now c.loop-i.rooms (omega arith) c.loop-i.invariant.bytes

pub returns-clause-lists : goal.returns-clause-lists
returns-clause-lists c = c.loop-i.invariant.lists
