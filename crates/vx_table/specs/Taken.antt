-- The rows of a table at picks, and some of its columns.
use Rattle.std.specs.Prelude.{◌≡◌, ℕ, List, ◌++◌, length, map, slice_get, true, Option}
use Rattle.std.specs.List.{All, filter_map}
use Rattle.vx_types.specs.RowValue.{null}
use Rattle.vx_types.specs.TypeTree.{TypeTree, is_flat}
use Rattle.vx_take.specs.Picks.{at}
use Rattle.vx_model.specs.Column.{Column}
use Rattle.vx_model.specs.Plain.{is_unwrapped}
use Rattle.vx_table.specs.Table.{TableValue}

-- the items of these numbers, in this order, as far as they are there
abbrev pub items_by_number : {X : Type 0} → List ℕ → List X → List X
items_by_number numbers items = filter_map (slice_get items) numbers

-- the columns of these numbers, with their names
abbrev pub columns_at : TableValue → List ℕ → TableValue
columns_at t projection =
    record {
      names = items_by_number projection t.names;
      columns = items_by_number projection t.columns;
      len = t.len;
    }

-- the columns of two tables that are as long
abbrev pub beside : TableValue → TableValue → TableValue
beside t other =
    record {
      names = t.names ++ other.names;
      columns = t.columns ++ other.columns;
      len = t.len;
    }

-- these columns have the rows of those at the picks, null at a null, and the types that `after`
-- makes of theirs; one of a flat type is unwrapped
pub record AreTaken (columns : List Column) (after : TypeTree → TypeTree)
    (picks : List (Option ℕ)) (taken : List Column) : Type 0 where
  pub types : map (λ c. c.dtype) taken ≡ map (λ c. after c.dtype) columns
  pub rows : map (λ c. c.rows) taken ≡ map (λ c. at null c.rows picks) columns
  pub unwrapped : All (λ c. is_flat c.dtype ≡ true → is_unwrapped c ≡ true) taken

-- p is the table of the rows of t at the picks: one list of picks serves all columns
pub record IsTaken (t : TableValue) (after : TypeTree → TypeTree) (picks : List (Option ℕ))
    (p : TableValue) : Type 0 where
  pub len : p.len ≡ length picks
  pub names : p.names ≡ t.names
  pub columns : AreTaken t.columns after picks p.columns
