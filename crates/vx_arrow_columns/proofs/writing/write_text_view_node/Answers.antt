-- The views, and zeros under nulls.
use Rattle.std.proofs.Common.{◌≤◌, ◌*◌, ◌+◌, length, Some, sym, ◌∙◌, arith}
use Rattle.vx_arrow_image.specs.declared.format.Format.TheVariants.{TextView}
use Rattle.vx_arrow_image.specs.Image.{part_of}
use Rattle.vx_arrow_columns.specs.Asked.{the_picking, the_picks}
use Rattle.vx_arrow_columns.specs.Picks.{shows_valid}
use Rattle.vx_arrow_columns.proofs.OwnTaken.{held_by}
use Rattle.vx_arrow_columns.proofs.PickReads.{length_picks}
use Rattle.vx_arrow_columns.proofs.Rooms.{values_as}
use Rattle.vx_arrow_columns.proofs.RowBytes.{bytes_by, cut_holds, rows_cleared}
use Rattle.vx_arrow_columns.proofs.writing.write_text_view_node.Goals as goal

pub write_records-requires-clause-source : goal.write_records-requires-clause-source
write_records-requires-clause-source c =
    let node = c.args.node.now in
    let held = held_by (part_of node) _ (Some TextView) c.requires.format.format c.requires.format.readable in
    let is : (node.offset + node.len) * 16 ≤ length node.values.now = omega (arith, held) in
    is

pub write_records-requires-clause-room : goal.write_records-requires-clause-room
write_records-requires-clause-room c =
    let ps = c.args.picks.now in
    let long = values_as (part_of c.args.node.now) (the_picking ps) (Some TextView) _ c.requires.format.format c.requires.values in
    let is : length ps.places.now * 16 ≤ length c.args.values.now = omega (arith, long, length_picks ps.places.now ps.valid.now ps.add) in
    is

pub clear_nulls-requires-clause-valid : goal.clear_nulls-requires-clause-valid
clear_nulls-requires-clause-valid c =
    let ps = c.args.picks.now in
    cut_holds (shows_valid (part_of c.args.node.now) (the_picking ps)) (length (the_picks ps)) (length ps.places.now) _ (length_picks ps.places.now ps.valid.now ps.add) (c.write_valid_of.auto.valid ∙ c.requires.valid)

pub clear_nulls-requires-clause-room : goal.clear_nulls-requires-clause-room
clear_nulls-requires-clause-room c =
    let ps = c.args.picks.now in
    let long = values_as (part_of c.args.node.now) (the_picking ps) (Some TextView) _ c.requires.format.format c.requires.values in
    let is : length ps.places.now * 16 ≤ length c.write_records.new.out = omega (arith, long, length_picks ps.places.now ps.valid.now ps.add, c.write_records.auto.out) in
    is

pub returns : goal.returns
returns c o s =
    let node = c.args.node.now in
    let p = part_of node in
    let ps = c.args.picks.now in
    let q = the_picking ps in
    let count = length_picks ps.places.now ps.valid.now ps.add in
    let long = values_as p q (Some TextView) _ c.requires.format.format c.requires.values in
    let room : length ps.places.now * 16 ≤ length c.write_records.new.out = omega (arith, long, count, c.write_records.auto.out) in
    bytes_by (Some TextView) p q _ o _ s c.requires.format.format c.write_valid_of.ensures.bits tt
    (rows_cleared 16 node.values.now p q.picks _ _ c.write_records.new.out _ (sym count) room c.write_valid_of.ensures.shows c.write_records.ensures c.clear_nulls.ensures) tt
