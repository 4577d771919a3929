-- An offset is a number of the type.
use Rattle.std.proofs.Common.{◌∙◌, ap, sym}
use Rattle.std.specs.Prelude.{int_le, pos}
use Rattle.vx_types.specs.PType.{greatest, number}
use Rattle.vx_offsets.proofs.ReadOffsets.{offset_read}
use Rattle.vx_lists.proofs.numbers.number_at.Goals as goal

pub returns-clause-small : goal.returns-clause-small
returns-clause-small g c =
    let bytes = c.index-records-i.result in
    let spelled = ap pos c.offset_at.ensures.value ∙ offset_read c.args.ptype c.args.records.now c.args.i c.args.len bytes c.requires.offsets c.requires.row in
    ap (λ z. int_le z (greatest c.args.ptype)) (spelled ∙ ap (number c.args.ptype) (sym c.index-records-i.is)) ∙ c.is_in_type.ensures
