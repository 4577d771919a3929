-- Keys of one column of small records: the numbers that these spell.
use Rattle.std.specs.Prelude.{◌≡◌, ℕ, ◌<◌, ◌≤◌, true, List, [], ◌∷◌, length, map, slice_index, Option, None, Some}
use Rattle.std.specs.Int.{from_le_bytes, w64}
use Rattle.vx_types.specs.RowValue.{RowValue, null, bytes}
use Rattle.vx_types.specs.TypeTree.{TypeTree, type_width}
use Rattle.vx_model.specs.Column.{Column}
use Rattle.vx_join.specs.Join.{are_key_types}

abbrev pub types_of : List Column → List TypeTree
types_of columns = map (λ (c : Column). c.dtype) columns

-- each two types are those of a pair of keys
abbrev pub AreAlike : List TypeTree → List TypeTree → Type 0
AreAlike [] [] = Unit {0}
AreAlike [] (u ∷ us) = ⊥
AreAlike (t ∷ ts) [] = ⊥
AreAlike (t ∷ ts) (u ∷ us) = (are_key_types t u ≡ true) × AreAlike ts us

-- records of the type have at most eight bytes
pub record IsSmall (t : TypeTree) (width : ℕ) : Type 0 where
  pub width_is : type_width t ≡ Some width
  pub few : width ≤ 8

-- the number that a record spells, lowest byte first, and none of a null
abbrev pub number_key : RowValue → Option ℕ
number_key (bytes xs) = Some (from_le_bytes w64 xs)
number_key x = None

-- a null, or a record of so many bytes
abbrev pub IsRecord : ℕ → RowValue → Type 0
IsRecord width null = Unit {0}
IsRecord width (bytes xs) = (length xs ≡ width) × ((i : ℕ) → slice_index xs i < 256)
IsRecord width x = ⊥
