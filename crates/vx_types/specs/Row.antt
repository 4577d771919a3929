-- What a `Row` stands for.
use Rattle.std.specs.Prelude.{List}
use Rattle.vx_types.specs.RowValue.{RowValue, row_values, null, bit, bytes, list, fields, tagged}
use Rattle.vx_types.specs.declared.row.Row.{Row, fold-Row}
use Rattle.vx_types.specs.declared.row.Row.TheOpen.{Row-F}
use Rattle.vx_types.specs.declared.row.RowList.{RowList, RowList-F, fold-RowList}

abbrev pub row_step : Row-F RowValue (List RowValue) → RowValue
row_step Row-F.Null = null
row_step (Row-F.Bit b) = bit b
row_step (Row-F.Bytes b) = bytes b
row_step (Row-F.List xs) = list (row_values xs)
row_step (Row-F.Fields xs) = fields (row_values xs)
row_step (Row-F.Tagged n x) = tagged n x.value

abbrev pub rows_step : RowList-F RowValue (List RowValue) → List RowValue
rows_step l = l.rows.items

abbrev pub row_value : Row → RowValue
row_value = fold-Row RowValue (List RowValue) row_step rows_step

-- the rows of a `RowList`
abbrev pub rows_in : RowList → List RowValue
rows_in = fold-RowList RowValue (List RowValue) row_step rows_step
