-- The rows of a column in memory, as the rows of the model.
use Rattle.std.specs.Prelude.{List, map}
use Rattle.vx_types.specs.RowValue.{RowValue, RowValues, null, bit, bytes, list, fields, tagged, none, more}
use Rattle.vx_arrow_image.specs.Rows as rows

unfoldable mutual
  -- the model's row that a row stands for
  pub model_row : rows.RowValue → RowValue
  model_row rows.null = null
  model_row (rows.bit b) = bit b
  model_row (rows.bytes bs) = bytes bs
  model_row (rows.list xs) = list (model_rows xs)
  model_row (rows.fields xs) = fields (model_rows xs)
  model_row (rows.tagged id x) = tagged id (model_row x)

  pub model_rows : rows.RowValues → RowValues
  model_rows rows.none = none
  model_rows (rows.more x xs) = more (model_row x) (model_rows xs)

-- the model's rows of a column
abbrev pub model_column : List rows.RowValue → List RowValue
model_column xs = map model_row xs
