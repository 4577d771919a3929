-- Rows of lists, as their elements one list after another.
use Rattle.std.specs.Prelude.{◌≡◌, ℕ, ◌++◌, List, [], ◌∷◌, length, map, replicate}
use Rattle.std.specs.List.{All}
use Rattle.vx_types.specs.RowValue.{RowValue, list}
use Rattle.vx_types.specs.TypeTree.{TypeTree}
use Rattle.vx_model.specs.Filler.{filler_row}
use Rattle.vx_column.specs.declared.cell.Cell.{Cell}
use Rattle.vx_lists.specs.Sums.{offsets_of}
use Rattle.vx_interleave.specs.Places.{joined}
use Rattle.vx_interleave.specs.Rows.{AreCellsOf, rows_in, shown_as, values_of}

-- the elements of a list; none of a null
abbrev pub elements_in : RowValue → List RowValue
elements_in (list xs) = values_of xs
elements_in x = []

-- the elements of a list of `size` elements of a type; `size` fillers of a null
abbrev pub elements_of : TypeTree → ℕ → RowValue → List RowValue
elements_of t size (list xs) = values_of xs
elements_of t size x = replicate size (filler_row t)

-- cells show these rows of a type
pub record AreShown (t : TypeTree) (shown : List RowValue) (cells : List Cell) : Type 0 where
  pub of_kind : AreCellsOf t.kind cells
  pub rows : map (shown_as t) (rows_in cells) ≡ shown

-- whatever rows cells show, other cells show those and some behind
abbrev pub AddsRows : TypeTree → List RowValue → List Cell → List Cell → Type 0
AddsRows t more old new =
    (rows : List RowValue) → AreShown t rows old → AreShown t (rows ++ more) new

-- cells show the elements of lists, and lists begin at these places among them
pub record JoinsLists (t : TypeTree) (lists : List (List RowValue)) (starts : List ℕ)
    (cells : List Cell) : Type 0 where
  pub elements : AreShown t (joined lists) cells
  pub sums : starts ++ length cells ∷ [] ≡ offsets_of (map length lists)

-- rows are the elements of lists, which begin at these places among them
pub record CutsLists (lists : List (List RowValue)) (starts : List ℕ) (elements : List RowValue)
    : Type 0 where
  pub elements_are : elements ≡ joined lists
  pub sums : starts ++ length elements ∷ [] ≡ offsets_of (map length lists)

-- cells show the elements of lists of one size
pub record JoinsFixed (t : TypeTree) (size : ℕ) (lists : List (List RowValue)) (cells : List Cell)
    : Type 0 where
  pub elements : AreShown t (joined lists) cells
  pub sizes : All (λ (l : List RowValue). length l ≡ size) lists
