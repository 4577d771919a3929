-- The bits of the rows.
use Rattle.std.proofs.Common.{Some, arith}
use Rattle.vx_arrow_image.specs.declared.format.Format.TheVariants.{Bits}
use Rattle.vx_arrow_image.specs.Image.{part_of}
use Rattle.vx_arrow_columns.specs.Asked.{the_picking}
use Rattle.vx_arrow_columns.proofs.PickReads.{length_picks}
use Rattle.vx_arrow_columns.proofs.Rooms.{values_as}
use Rattle.vx_arrow_columns.proofs.RowBytes.{bytes_by}
use Rattle.vx_arrow_columns.proofs.writing.write_bits_node.Goals as goal

pub write_bits-requires-clause-room : goal.write_bits-requires-clause-room
write_bits-requires-clause-room c =
    let ps = c.args.picks.now in
    let long = values_as (part_of c.args.node.now) (the_picking ps) (Some Bits) _ c.requires.format.format c.requires.values in
    omega (arith, long, length_picks ps.places.now ps.valid.now ps.add)

pub returns : goal.returns
returns c o s = bytes_by (Some Bits) (part_of c.args.node.now) (the_picking c.args.picks.now) _ o _ s c.requires.format.format c.write_valid_of.ensures.bits tt c.write_bits.ensures tt
