-- The row is the record whose number was read.
use Rattle.std.proofs.Common.{Some, sym, ap, ◌∙◌}
use Rattle.vx_types.specs.DType.{type_of}
use Rattle.vx_types.specs.RowValue.{bytes}
use Rattle.vx_types.specs.TypeTree.{TypeTree}
use Rattle.vx_model.specs.Numbers.{number_in}
use Rattle.vx_pieces.specs.Pieces.{natural_of}
use Rattle.vx_pieces.proofs.Naturals.{natural_of_row}
use Rattle.vx_pieces.proofs.natural.natural_at.Goals as goal

pub returns : goal.returns
returns c =
    let array = c.args.array.now in
    let typed = sym c.dtype.ensures.value ∙ ap type_of c.in-Primitive.is in
    sym (natural_of_row array c.args.i c.requires.row ∙ ap (λ x. natural_of (number_in array.dtype.kind x)) (sym c.in-Bytes.ensures.row)
    ∙ ap (λ (t : TypeTree). natural_of (number_in t.kind (bytes c.in-Bytes.bytes.now))) typed ∙ ap (λ z. natural_of (Some z)) c.natural.ensures)
