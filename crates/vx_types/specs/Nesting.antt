-- A type inside another nests less deep.
use Rattle.std.specs.Prelude.{◌≤◌, List, [], ◌∷◌, map}
use Rattle.std.proofs.Common.{arith}
use Rattle.vx_types.specs.TypeTree.{types_of, type_size, types_size}
use Rattle.vx_types.specs.DType.{type_of}
use Rattle.vx_types.specs.declared.dtype.DType.{DType}
use Rattle.vx_types.specs.declared.dtype.DType.TheVariants.{Null, Bool, Primitive, Decimal, Utf8, Binary, List as Lists, FixedSizeList, Map, Struct, Union, Extension}
use Rattle.vx_types.specs.declared.element.ElementType.TheDeep.{deep-DType}
use denote.Param.Weighed.{most}

pub deep_le : (t : DType) → deep-DType t ≤ type_size (type_of t)
deep_le Null = omega arith
deep_le (Bool n) = omega arith
deep_le (Primitive p n) = omega arith
deep_le (Decimal d n) = omega arith
deep_le (Utf8 n) = omega arith
deep_le (Binary n) = omega arith
deep_le (Lists t n) = omega arith
deep_le (FixedSizeList t k n) = omega arith
deep_le (Map f n) = omega arith
deep_le (Struct f n) = omega arith
deep_le (Union v n) = omega arith
deep_le (Extension e n) = omega arith

pub most_le : (ts : List DType) → most deep-DType ts ≤ types_size (types_of (map type_of ts))
most_le [] = omega arith
most_le (t ∷ ts) = omega (arith, deep_le t, most_le ts)
