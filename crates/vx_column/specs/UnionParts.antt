-- What a `UnionArray` stands for, and what holds of it.
use Rattle.std.specs.Prelude.{◌≡◌, List, Option, None, true}
use Rattle.vx_types.specs.FieldTypes.{VariantTypes}
use Rattle.vx_types.specs.TypeTree.{are_carried, types_of}
use Rattle.vx_model.specs.Column.{Column}
use Rattle.vx_model.specs.Records.{RecordParts}
use Rattle.vx_model.specs.Union.{UnionParts, union_fault}

abbrev pub union_parts : Column → Option RecordParts → VariantTypes → List Column → UnionParts
union_parts ids offsets variants columns =
    record { ids = ids; offsets = offsets; variants = variants; columns = columns }

-- the parts make a column, and its type is one that a column may have
pub record IsUnion (p : UnionParts) : Type 0 where
  pub valid : union_fault p ≡ None
  pub carried : are_carried (types_of p.variants.types) ≡ true
