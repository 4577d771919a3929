-- The bytes of a row are as many as its type says, which is no extension.
use Rattle.std.proofs.Common.{◌≡◌, true, subst}
use Rattle.vx_types.specs.Scalar.{is_width_of}
use Rattle.vx_types.specs.TypeTree.{TypeKind, kind_width, type_width}
use Rattle.vx_column.proofs.Cells.{stored-width}
use Rattle.vx_join.specs.Numbers.{IsRecord}
use Rattle.vx_join.proofs.SmallRecords.{as_wide}
use Rattle.vx_join.proofs.numbers.key_at.Goals as goal

pub returns-in-Bytes-clause-record_of : goal.returns-in-Bytes-clause-record_of
returns-in-Bytes-clause-record_of c =
    let small = c.requires.small in let t = c.args.column.now.dtype in let b = c.in-Bytes.bytes.now in
    let wide : is_width_of (type_width t) b ≡ true =
    subst (λ (k : TypeKind). is_width_of (kind_width k) b ≡ true) (stored-width t.kind c.args.width small.width_is)
    c.in-Bytes.ensures.of_type.width in
    subst (IsRecord c.args.width) c.in-Bytes.ensures.row
    (as_wide (type_width t) c.args.width b small.width_is wide, c.spelt.ensures.small)
