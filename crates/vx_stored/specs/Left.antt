-- The type of what a step leaves.
use Rattle.vx_types.specs.TypeTree.{TypeTree}
use Rattle.vx_model.specs.Valid.{Valid, nullability_by}

-- of this type's kind, and nullable where the new validity is
abbrev pub left_type : TypeTree → Valid → TypeTree
left_type t v = record t { nullability = nullability_by v }
