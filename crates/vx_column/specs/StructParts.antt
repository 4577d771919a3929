-- What a `StructArray` stands for, and what holds of it.
use Rattle.std.specs.Prelude.{◌≡◌, ℕ, List, None, true}
use Rattle.vx_types.specs.FieldTypes.{FieldTypes}
use Rattle.vx_types.specs.TypeTree.{are_carried, types_of}
use Rattle.vx_model.specs.Column.{Column}
use Rattle.vx_model.specs.Struct.{StructParts, struct_fault}
use Rattle.vx_column.specs.Validity.{valid_of}
use Rattle.vx_column.specs.declared.validity.Validity.{Validity}

abbrev pub struct_parts : List Column → FieldTypes → ℕ → Validity → StructParts
struct_parts columns types len validity =
    record { columns = columns; types = types; len = len; valid = valid_of validity }

-- the parts make a column, and its type is one that a column may have
pub record IsStruct (p : StructParts) : Type 0 where
  pub valid : struct_fault p ≡ None
  pub carried : are_carried (types_of p.types.types) ≡ true
