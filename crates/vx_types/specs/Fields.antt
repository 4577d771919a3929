-- What a `StructFields` stands for.
use Rattle.std.specs.Prelude.{ℕ, ◌==◌, List, length, map, Option, Some, None, Vec, if◌then◌else◌}
use Rattle.std.specs.Rc.{rc_str_bytes}
use Rattle.std.specs.declared.alloc.Global.{Global}
use Rattle.std.specs.declared.rc.RcStr.{RcStr}
use Rattle.vx_types.specs.DType.{type_of}
use Rattle.vx_types.specs.FieldTypes.{FieldTypes}
use Rattle.vx_types.specs.declared.dtype.DType.{DType}
use Rattle.vx_types.specs.declared.error.ColumnError.{ColumnError}
use Rattle.vx_types.specs.declared.error.ColumnError.TheVariants.{WrongLength}

abbrev pub names_of : List (RcStr Global) → List (List ℕ)
names_of names = map (λ (s : RcStr Global). rc_str_bytes s) names

abbrev pub fields_of : Vec (RcStr Global) Global → Vec DType Global → FieldTypes
fields_of names types = record { names = names_of names.items; types = map type_of types.items }

-- why they are no fields
abbrev pub fields_fault : FieldTypes → Option ColumnError
fields_fault f = if length f.names == length f.types then None else Some WrongLength
