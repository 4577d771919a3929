-- What a `DType` stands for.
use Rattle.vx_types.specs.TypeTree.{TypeTree, null_type, bool_type, primitive_type, decimal_type, utf8_type, binary_type, list_type, fixed_type, map_type, struct_type, union_type, extension_type}
use Rattle.vx_types.specs.declared.dtype.DType.{DType}
use Rattle.vx_types.specs.declared.dtype.DType.TheVariants.{Null, Bool, Primitive, Decimal, Utf8, Binary, List as Lists, FixedSizeList, Map, Struct, Union, Extension}

abbrev pub type_of : DType → TypeTree
type_of Null = null_type
type_of (Bool n) = bool_type n
type_of (Primitive p n) = primitive_type p n
type_of (Decimal d n) = decimal_type d.precision d.scale d.width n
type_of (Utf8 n) = utf8_type n
type_of (Binary n) = binary_type n
type_of (Lists t n) = list_type t n
type_of (FixedSizeList t size n) = fixed_type t size n
type_of (Map f n) = map_type f.names f.types n
type_of (Struct f n) = struct_type f.names f.types n
type_of (Union v n) = union_type v.ids v.names v.types n
type_of (Extension e n) = extension_type e.name e.storage n
