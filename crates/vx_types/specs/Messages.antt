-- What errors say.
use Rattle.std.specs.Prelude.{ℕ, List, codes}
use Rattle.vx_types.specs.declared.error.ColumnError.{ColumnError}
use Rattle.vx_types.specs.declared.error.ColumnError.TheVariants as cases

abbrev pub column_error_text : ColumnError → List ℕ
column_error_text cases.WrongType = codes "a part is of another type than its place wants"
column_error_text cases.WrongWidth = codes "records are not as wide as their type"
column_error_text cases.WrongLength = codes "parts that go together differ in length"
column_error_text cases.BadValidity =
    codes "the validity is no non-nullable bool column as long as the rows"
column_error_text cases.CodeOutOfRange = codes "a dictionary code names no value"
column_error_text cases.BadOffsets =
    codes "offsets fall, are negative, or pass what they point into"
column_error_text cases.BadSizes = codes "a size is negative, or passes what it points into"
column_error_text cases.BadViews = codes "a view names bytes outside its buffers"
column_error_text cases.BadTypeId = codes "a type id names no variant, or names two"
column_error_text cases.TooLong = codes "a length passes usize::MAX"
column_error_text cases.NoMemory = codes "out of memory"
