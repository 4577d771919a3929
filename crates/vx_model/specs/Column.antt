-- What contracts see of an `Array`: its type, its rows, and how it stores them.
use Rattle.std.specs.Prelude.{ℕ, ℤ, [], List, Option, None}
use Rattle.vx_types.specs.TypeTree.{TypeKind, TypeTree}
use Rattle.vx_types.specs.RowValue.{RowValue}
use Rattle.vx_types.specs.declared.layout_name.LayoutName.{LayoutName}
use Rattle.vx_types.specs.declared.nullability.Nullability.{Nullability}

-- how a layout stores which rows are null: by no validity of its own, by one answer for all rows,
-- by an array of layout `Bool`, or by any other array
pub data Cover : Type 0 where
  no_validity : Cover
  constant_form : Cover
  by_bools : Cover
  by_other : Cover

-- the codes of a dictionary, which its rows don't tell
pub record Codes : Type 0 where
  -- for each row the number of a value, and none for a null
  pub numbers : List (Option ℤ)
  pub nullability : Nullability

pub record Column : Type 0 where
  pub dtype : TypeTree
  pub rows : List RowValue
  -- which layout stores the rows
  pub layout : LayoutName
  pub cover : Cover
  -- the stored bytes of each row of a `Primitive` or `Decimal`, null rows too; else none
  pub stored : List (List ℕ)
  -- the value of a `Constant`, which its rows don't show where there are none
  pub constant : Option RowValue
  -- of a `Dict`
  pub codes : Option Codes
  -- the kind of the offsets of a dense `Union`, or of an `Extension`, `Dict` or `Filter` over one
  pub dense : Option TypeKind
  -- how deep its layouts nest: what a recursion over them counts down
  pub depth : ℕ

-- the column of these rows in a layout that has no validity of its own
abbrev pub bare_column : TypeTree → List RowValue → LayoutName → ℕ → Column
bare_column dtype rows layout depth =
    record {
      dtype = dtype;
      rows = rows;
      layout = layout;
      cover = no_validity;
      stored = [];
      constant = None;
      codes = None;
      dense = None;
      depth = depth;
    }
