-- What a JSON value means as a list of numbers.
use Rattle.std.specs.Prelude.{Option, Some, None}
use Rattle.serde_json.specs.Data.{Data, Items}
use Rattle.serde_json.specs.Find.{as_array}
use Rattle.vx_types.specs.declared.ptype.PType.{PType}
use Rattle.vx_model.specs.Column.{Column}
use Rattle.vx_column_json.specs.Primitive.{primitive_by_items}
use Rattle.vx_document.specs.Columns.{column_of}

-- a list of numbers and nulls, of that type, or else a column
abbrev pub listed_or : PType → Option Items → Option Column → Option Column
listed_or p (Some ds) column = primitive_by_items p None ds
listed_or p None column = column

unfoldable pub numbers_in : PType → Data → Option Column
numbers_in p d = listed_or p (as_array d) (column_of d)
