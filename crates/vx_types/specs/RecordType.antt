-- The type of a record.
use Rattle.vx_types.specs.TypeTree.{TypeKind, primitive_kind, decimal_kind}
use Rattle.vx_types.specs.declared.record_type.RecordType.{RecordType}
use Rattle.vx_types.specs.declared.record_type.RecordType.TheVariants.{Primitive, Decimal}

abbrev pub kind_of : RecordType → TypeKind
kind_of (Primitive p) = primitive_kind p
kind_of (Decimal d) = decimal_kind d.precision d.scale d.width
