-- Columns of a flat type.
use Rattle.std.specs.Prelude.{Option, Some, None, if◌then◌else◌}
use Rattle.vx_types.specs.TypeTree.{is_flat}
use Rattle.vx_types.specs.declared.error.ColumnError.{ColumnError}
use Rattle.vx_types.specs.declared.error.ColumnError.TheVariants.{WrongType}
use Rattle.vx_model.specs.Column.{Column}

-- why it is no flat column
abbrev pub flat_fault : Column → Option ColumnError
flat_fault c = if is_flat c.dtype then None else Some WrongType
