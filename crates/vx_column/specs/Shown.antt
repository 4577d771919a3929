-- Columns whose rows are stored as records, of which some are null.
use Rattle.std.specs.Prelude.{◌≡◌, length, map, Some}
use Rattle.vx_bits.specs.BitBuffer.{PlacedBits}
use Rattle.vx_bits.specs.Records.{records_of, width_of}
use Rattle.vx_bits.specs.declared.records.Records.{Records}
use Rattle.vx_types.specs.RowValue.{bytes}
use Rattle.vx_types.specs.TypeTree.{type_width}
use Rattle.vx_types.specs.declared.nullability.Nullability.TheVariants.{Nullable}
use Rattle.vx_model.specs.Column.{Column}
use Rattle.vx_model.specs.Valid.{shown_rows}

-- the rows are these records, which are as wide as the type, and null where a bit is clear
pub record AreShownRowsOf (c : Column) (records : Records) (bits : PlacedBits) : Type 0 where
  pub rows : c.rows ≡ shown_rows bits.bits (map bytes (records_of records))
  pub width : Some (width_of records) ≡ type_width c.dtype
  pub long : length bits.bits ≡ length (records_of records)
  pub nullable : c.dtype.nullability ≡ Nullable
