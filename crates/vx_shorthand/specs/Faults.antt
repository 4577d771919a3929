-- Why a column filters no rows.
use Rattle.std.specs.Prelude.{Option, Some, None, if◌then◌else◌}
use Rattle.vx_types.specs.declared.error.ColumnError.{ColumnError}
use Rattle.vx_types.specs.declared.error.ColumnError.TheVariants.{WrongType}
use Rattle.vx_model.specs.Column.{Column}
use Rattle.vx_reading.specs.BoolRows.{is_bool_type}

-- it isn't of bools
abbrev pub bools_fault : Column → Option ColumnError
bools_fault c = if is_bool_type c.dtype then None else Some WrongType
