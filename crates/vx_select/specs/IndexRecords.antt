-- Positions as the records of a column of indices.
use Rattle.std.specs.Prelude.{ℕ, List, Option, Some, None, replicate}
use Rattle.std.specs.Int.{w64, to_le_bytes}

-- the record of a position, and zeros at a null
abbrev pub index_record : Option ℕ → List ℕ
index_record None = replicate 8 0
index_record (Some p) = to_le_bytes w64 p
