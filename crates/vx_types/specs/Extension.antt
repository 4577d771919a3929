-- What an `ExtDType` stands for.
use Rattle.std.specs.Rc.{rc_str_bytes}
use Rattle.std.specs.declared.alloc.Global.{Global}
use Rattle.std.specs.declared.rc.RcStr.{RcStr}
use Rattle.vx_types.specs.DType.{type_of}
use Rattle.vx_types.specs.FieldTypes.{ExtensionType}
use Rattle.vx_types.specs.TypeTree.{with_nullability}
use Rattle.vx_types.specs.declared.dtype.DType.{DType}
use Rattle.vx_types.specs.declared.nullability.Nullability.TheVariants.{NonNullable}

-- the name and the storage type without its outer nullability
abbrev pub extension_of : RcStr Global → DType → ExtensionType
extension_of name storage =
    record {
      name = rc_str_bytes name;
      storage = with_nullability (type_of storage) NonNullable;
    }
