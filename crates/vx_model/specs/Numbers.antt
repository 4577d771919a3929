-- The numbers of a column of integer type.
use Rattle.std.specs.Prelude.{ℕ, List, map, Option, Some, None, ℤ, pos}
use Rattle.vx_types.specs.PType.{number}
use Rattle.vx_types.specs.TypeTree.{TypeKind, primitive_kind}
use Rattle.vx_types.specs.RowValue.{RowValue, bytes}
use Rattle.vx_model.specs.Column.{Column}
use Rattle.vx_model.specs.Records.{RecordParts}

-- the number that bytes spell in a column of this kind
abbrev pub number_by : TypeKind → List ℕ → Option ℤ
number_by (primitive_kind p) b = Some (number p b)
number_by k b = None

-- the number in a row of a column of this kind; none where the row is null
abbrev pub number_in : TypeKind → RowValue → Option ℤ
number_in k (bytes b) = number_by k b
number_in k x = None

-- the number in each row; none at a null
abbrev pub numbers_of : Column → List (Option ℤ)
numbers_of c = map (number_in c.dtype.kind) c.rows

-- the number that a record of a kind of integers spells
abbrev pub integer_by : TypeKind → List ℕ → ℤ
integer_by (primitive_kind p) b = number p b
integer_by k b = pos 0

-- the numbers of records of integers, null rows too
abbrev pub integers_of : RecordParts → List ℤ
integers_of p = map (integer_by p.kind) p.records
