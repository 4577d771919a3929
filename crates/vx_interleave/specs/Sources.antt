-- Columns whose rows are interleaved, and the places of these rows.
use Rattle.std.specs.Prelude.{◌≡◌, true, List, map, Option, Some, None}
use Rattle.std.specs.List.{All}
use Rattle.vx_types.specs.Nullability.{is_nullable}
use Rattle.vx_types.specs.RowValue.{RowValue, null}
use Rattle.vx_types.specs.TypeTree.{TypeTree, null_type}
use Rattle.vx_model.specs.Column.{Column}
use Rattle.vx_model.specs.Plain.{is_null_layout}
use Rattle.vx_interleave.specs.Places.{IsPlaceIn, interleaved, joined}
use Rattle.vx_interleave.specs.declared.place.Place.{Place}

-- the rows of each column
abbrev pub rows_of : List Column → List (List RowValue)
rows_of columns = map (λ (c : Column). c.rows) columns

-- a column of this type, or of the same without nulls
pub record IsSourceOf (t : TypeTree) (c : Column) : Type 0 where
  pub kind : c.dtype.kind ≡ t.kind
  pub nulls : is_nullable c.dtype.nullability ≡ true → is_nullable t.nullability ≡ true

-- columns of nulls alone: the type is null, and each is of layout `Null`
pub record AreNulls (t : TypeTree) (columns : List Column) : Type 0 where
  pub dtype : t ≡ null_type
  pub layouts : All (λ (c : Column). is_null_layout c.layout ≡ true) columns

-- a place of a row, or none, which only a type with nulls has
abbrev pub IsPlaceFor : TypeTree → List (List RowValue) → Option Place → Type 0
IsPlaceFor t lists None = is_nullable t.nullability ≡ true
IsPlaceFor t lists (Some place) = IsPlaceIn lists place

abbrev pub ArePlacesFor : TypeTree → List (List RowValue) → List (Option Place) → Type 0
ArePlacesFor t lists order = All (IsPlaceFor t lists) order

-- the places of all rows of the first of these lists, in order
pub record AreAllPlaces (first lists : List (List RowValue)) (order : List (Option Place))
    : Type 0 where
  pub rows : interleaved null lists order ≡ joined first
  pub places : (t : TypeTree) → ArePlacesFor t lists order
