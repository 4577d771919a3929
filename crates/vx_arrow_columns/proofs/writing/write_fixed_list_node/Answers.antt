-- No lists but validity.
use Rattle.std.proofs.Common.{Some}
use Rattle.vx_arrow_image.specs.declared.format.Format.TheVariants.{FixedList}
use Rattle.vx_arrow_image.specs.Image.{part_of}
use Rattle.vx_arrow_columns.specs.Asked.{the_picking}
use Rattle.vx_arrow_columns.proofs.RowBytes.{bytes_by}
use Rattle.vx_arrow_columns.proofs.writing.write_fixed_list_node.Goals as goal

pub returns : goal.returns
returns c o x s = bytes_by (Some FixedList) (part_of c.args.node.now) (the_picking c.args.picks.now) _ o x s c.requires.format.format c.write_valid_of.ensures.bits tt tt tt
