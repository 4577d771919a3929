-- Why a list of parts makes no column.
use Rattle.std.specs.Prelude.{ℕ, pos, List, map, Option, None, Some, if◌then◌else◌}
use Rattle.vx_types.specs.declared.error.ColumnError.{ColumnError}
use Rattle.vx_types.specs.declared.error.ColumnError.TheVariants.{BadOffsets, WrongLength}
use Rattle.vx_offsets.specs.Offsets.{are_offsets}
use Rattle.vx_model.specs.Column.{Column}
use Rattle.vx_model.specs.Columns.{are_long}

-- these aren't offsets into so many elements
abbrev pub offsets_fault : List ℕ → ℕ → Option ColumnError
offsets_fault offsets n = if are_offsets (map pos offsets) n then None else Some BadOffsets

-- a column hasn't so many rows
abbrev pub lengths_fault : ℕ → List Column → Option ColumnError
lengths_fault n columns = if are_long n columns then None else Some WrongLength
