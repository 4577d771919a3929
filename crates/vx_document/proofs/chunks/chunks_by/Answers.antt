-- The records are as wide as the shape wants them.
use Rattle.std.proofs.Common.{◌≡◌, Some, refl, sym, ap, ◌∙◌}
use Rattle.vx_types.specs.TypeTree.{kind_width, type_width}
use Rattle.vx_types.specs.RecordType.{kind_of}
use Rattle.vx_types.specs.declared.record_type.RecordType.{RecordType}
use Rattle.vx_types.specs.declared.record_type.RecordType.TheVariants.{Primitive, Decimal}
use Rattle.vx_document.specs.Chunks.{record_width}
use Rattle.vx_document.proofs.chunks.chunks_by.Goals as goal

by_type : (t : RecordType) → kind_width (kind_of t) ≡ Some (record_width t)
unfolding record_width
by_type (Primitive p) = refl
by_type (Decimal d) = refl

pub chunks_made-requires : goal.chunks_made-requires
chunks_made-requires c =
    ap type_width (c.in_ok-shape.ensures.dtype ∙ c.dtype-dtype.ensures)
    ∙ by_type c.args.record_type ∙ ap Some (sym c.in_ok-records.ensures.width)
