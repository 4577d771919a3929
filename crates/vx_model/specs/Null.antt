-- Layout `Null`: rows that are all null.
use Rattle.std.specs.Prelude.{ℕ, replicate}
use Rattle.vx_types.specs.TypeTree.{null_type}
use Rattle.vx_types.specs.RowValue.{null}
use Rattle.vx_types.specs.declared.layout_name.LayoutName.TheVariants.{Null}
use Rattle.vx_model.specs.Column.{Column, bare_column}

-- so many nulls
abbrev pub null_column : ℕ → Column
null_column n = bare_column null_type (replicate n null) Null 1
