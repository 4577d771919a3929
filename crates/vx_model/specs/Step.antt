-- What one step leaves of a column.
use Rattle.std.specs.Prelude.{◌≡◌, ◌≤◌, ℕ, true, false, List, Option, MatchOption, slice_range}
use Rattle.vx_types.specs.TypeTree.{TypeTree, also_nullable}
use Rattle.vx_types.specs.RowValue.{RowValue, null}
use Rattle.vx_types.specs.declared.nullability.Nullability.{Nullability}
use Rattle.vx_take.specs.Picks.{at}
use Rattle.vx_model.specs.Column.{Column}
use Rattle.vx_model.specs.Plain.{is_in_place, is_lazy_layout, is_plain, is_unwrapped}

-- a has the rows that are left and this type; a layout that stores its rows in their places stays;
-- what was unwrapped stays so, and what wasn't lazy; and so does the form of a union, sparse or
-- dense with offsets of this type, whatever is over it
pub record IsStep (c : Column) (left : List RowValue) (t : TypeTree) (a : Column) : Type 0 where
  pub rows : a.rows ≡ left
  pub dtype : a.dtype ≡ t
  pub layout : is_in_place c.layout ≡ true → a.layout ≡ c.layout
  pub unwrapped : is_unwrapped c ≡ true → is_unwrapped a ≡ true
  pub direct : is_lazy_layout c.layout ≡ false → is_lazy_layout a.layout ≡ false
  pub form : a.dense ≡ c.dense

-- a has the rows of c at the picks, null at a null, and its type, nullable also where n is
abbrev pub IsTake : Column → List (Option ℕ) → Nullability → Column → Type 0
IsTake c picks n a = IsStep c (at null c.rows picks) (also_nullable c.dtype n) a

-- a has the rows that are left, the type of c, is as plain, and nests no deeper
pub record IsCut (c : Column) (left : List RowValue) (a : Column) : Type 0 where
  pub step : IsStep c left c.dtype a
  pub plain : is_plain c ≡ true → is_plain a ≡ true
  pub depth : a.depth ≤ c.depth

-- a is the slice of c
abbrev pub IsSlice : Column → ℕ → ℕ → Column → Type 0
IsSlice c start end a = IsCut c (slice_range c.rows start end) a

-- the slice of a plain column, and none of another
abbrev pub IsPlainSlice : Column → ℕ → ℕ → Option Column → Type 0
IsPlainSlice c start end r =
    MatchOption r (is_plain c ≡ false) (λ a. (is_plain c ≡ true) × IsSlice c start end a)
