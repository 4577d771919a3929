-- The first W of the number's bytes.
use Rattle.std.proofs.Common.{take, ap, ◌∙◌}
use Rattle.std.specs.Int.{w128, to_le_bytes}
use Rattle.std.proofs.lemmas.Int.{to_z-of_z}
use Rattle.vx_types.specs.PType.{record_of}
use Rattle.vx_types.proofs.ptype.record_of.Goals as goal

pub returns : goal.returns
unfolding record_of
returns g c =
    let fits = c.ranges.number in
    let unsigned = simp to_z-of_z at c.cast_unsigned.ensures in
    c.as_array.ensures ∙ ap (take g.row.W) (c.to_le_bytes.ensures ∙ ap (to_le_bytes w128) unsigned)
