-- Columns whose rows are stored as records, and none of them null.
use Rattle.std.specs.Prelude.{◌≡◌, true, map, Option, Some, MatchOption}
use Rattle.vx_bits.specs.Records.{records_of, width_of}
use Rattle.vx_bits.specs.declared.records.Records.{Records}
use Rattle.vx_types.specs.RowValue.{bytes}
use Rattle.vx_types.specs.Nullability.{is_nullable}
use Rattle.vx_types.specs.TypeTree.{type_width}
use Rattle.vx_model.specs.Column.{Column}
use Rattle.vx_model.specs.Plain.{stores_records}

-- the rows are these records, which are as wide as the type
pub record AreRowsOf (c : Column) (records : Records) : Type 0 where
  pub rows : c.rows ≡ map bytes (records_of records)
  pub width : Some (width_of records) ≡ type_width c.dtype
  pub stored : stores_records c.layout ≡ true

-- the records of the rows; none where the type has nulls, or the layout stores no records
abbrev pub HasRecords : Column → Option Records → Type 0
HasRecords c r =
    MatchOption r
    (stores_records c.layout ≡ true → is_nullable c.dtype.nullability ≡ true)
    (λ records. AreRowsOf c records)
