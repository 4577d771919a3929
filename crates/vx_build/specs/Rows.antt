-- Rows that are made of values of a caller's.
use Rattle.std.specs.Prelude.{ℕ, List, [], Option, None, Some}
use Rattle.vx_types.specs.RowValue.{RowValue, null}

-- the row of a value, and null where there is none
abbrev pub row_or_null : {X : Type 0} → (X → RowValue) → Option X → RowValue
row_or_null row None = null
row_or_null row (Some x) = row x

-- the bytes of a text, and none where there is no text
abbrev pub bytes_or_none : {X : Type 0} → (X → List ℕ) → Option X → List ℕ
bytes_or_none text None = []
bytes_or_none text (Some x) = text x
