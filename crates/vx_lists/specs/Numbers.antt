-- Numbers in records of an integer type.
use Rattle.std.specs.Prelude.{◌≡◌, ℕ, int_le, pos, true, List}
use Rattle.std.specs.Int.{to_le_bytes}
use Rattle.std.specs.List.{All}
use Rattle.vx_types.specs.PType.{greatest, int_width}
use Rattle.vx_types.specs.declared.ptype.PType.{PType}

-- the record of a number
abbrev pub record_by : PType → ℕ → List ℕ
record_by p n = to_le_bytes (int_width p) n

-- each is a number of the type
abbrev pub AreInType : PType → List ℕ → Type 0
AreInType p numbers = All (λ n. int_le (pos n) (greatest p) ≡ true) numbers
