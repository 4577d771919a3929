-- Each format has its own way; nulls have no lists of their own.
use Rattle.std.proofs.Common.{◌≡◌, Some, None, refl, rules}
use Rattle.vx_arrow_image.specs.declared.format.Format.TheVariants.{Nulls}
use Rattle.vx_arrow_image.specs.Image.{format_in, part_of}
use Rattle.vx_arrow_columns.specs.Asked.{the_picking}
use Rattle.vx_arrow_columns.proofs.OwnTaken.{no_format}
use Rattle.vx_arrow_columns.proofs.RowBytes.{bytes_by, no_bits_by}
use Rattle.vx_arrow_columns.proofs.writing.write_node.Goals as goal

pub returns-in-Some-Nulls : goal.returns-in-Some-Nulls
returns-in-Some-Nulls c =
    let format : format_in c.args.node.now.format ≡ Some Nulls = search rules in
    let p = part_of c.args.node.now in
    let q = the_picking c.args.picks.now in
    bytes_by (Some Nulls) p q _ _ _ _ format (no_bits_by p q (Some Nulls) format (λ b. refl) _) tt tt tt

pub returns-in-None : goal.returns-in-None
returns-in-None c = let format : format_in c.args.node.now.format ≡ None = search rules in absurd (no_format (part_of c.args.node.now) _ format c.requires.readable)

pub returns-in-Some-Bits : goal.returns-in-Some-Bits
returns-in-Some-Bits c = c.write_bits_node.ensures _ _

pub returns-in-Some-Fixed : goal.returns-in-Some-Fixed
returns-in-Some-Fixed c = c.write_fixed_node.ensures _ _

pub returns-in-Some-Text : goal.returns-in-Some-Text
returns-in-Some-Text c = c.write_text_node.ensures _

pub returns-in-Some-Struct : goal.returns-in-Some-Struct
returns-in-Some-Struct c = c.write_struct_node.ensures _ _ _

pub returns-in-Some-List : goal.returns-in-Some-List
returns-in-Some-List c = c.write_list_node.ensures _ _

pub returns-in-Some-FixedList : goal.returns-in-Some-FixedList
returns-in-Some-FixedList c = c.write_fixed_list_node.ensures _ _ _

pub returns-in-Some-TextView : goal.returns-in-Some-TextView
returns-in-Some-TextView c = c.write_text_view_node.ensures _ _

pub returns-in-Some-ListView : goal.returns-in-Some-ListView
returns-in-Some-ListView c = c.write_list_view_node.ensures _

pub returns-in-Some-Union : goal.returns-in-Some-Union
returns-in-Some-Union c = c.write_union_node.ensures _ _

pub returns-in-Some-DenseUnion : goal.returns-in-Some-DenseUnion
returns-in-Some-DenseUnion c = c.write_dense_node.ensures _
