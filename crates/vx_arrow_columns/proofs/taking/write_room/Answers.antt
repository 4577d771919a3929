-- The room has its bytes, and so its rows.
use Rattle.vx_arrow_image.specs.Image.{part_of}
use Rattle.vx_arrow_columns.specs.Planned.{picking_in}
use Rattle.vx_arrow_columns.proofs.RoomBytes.{job_shows, room_bytes, room_taken, roomed}
use Rattle.vx_arrow_columns.proofs.taking.write_room.Goals as goal

pub write_front-requires-clause-bits : goal.write_front-requires-clause-bits
write_front-requires-clause-bits c = (roomed c.args.need.now c.args.room.now c.requires.room).valid

pub write_front-requires-clause-offsets : goal.write_front-requires-clause-offsets
write_front-requires-clause-offsets c = (roomed c.args.need.now c.args.room.now c.requires.room).offsets

pub write_front-requires-clause-values : goal.write_front-requires-clause-values
write_front-requires-clause-values c = (roomed c.args.need.now c.args.room.now c.requires.room).values

pub write_front-requires-clause-sizes : goal.write_front-requires-clause-sizes
write_front-requires-clause-sizes c = (roomed c.args.need.now c.args.room.now c.requires.room).sizes

pub returns-clause-bytes : goal.returns-clause-bytes
returns-clause-bytes c =
    let e = c.write_front.ensures in
    room_bytes _ _ _ _ _ c.requires.need e.bytes e.past_bits e.past_offsets e.past_values e.past_sizes

pub returns-clause-taken : goal.returns-clause-taken
returns-clause-taken c =
    let e = c.write_front.ensures in
    let p = part_of c.args.node.now in
    room_taken p (picking_in c.args.places.now c.args.valid.now c.args.lists.now c.args.job) c.args.need.now c.args.room.now _ c.requires.need c.requires.room c.requires.readable
    (job_shows p c.args.places.now c.args.valid.now c.args.lists.now c.args.job) (room_bytes _ _ _ _ (record { valid = record c.args.room.now.valid { now = c.write_front.new.bits }; offsets = record c.args.room.now.offsets { now = c.write_front.new.offsets }; values = record c.args.room.now.values { now = c.write_front.new.values }; sizes = record c.args.room.now.sizes { now = c.write_front.new.sizes } }) c.requires.need e.bytes e.past_bits e.past_offsets e.past_values e.past_sizes)
