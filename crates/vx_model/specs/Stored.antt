-- Layouts that store each row under a validity, null rows too: `Bool`, `Primitive`, `Decimal`,
-- `VarBin`, `VarBinView`, and those of lists.
use Rattle.std.specs.Prelude.{ℕ, ◌+◌, max, List}
use Rattle.vx_types.specs.TypeTree.{TypeKind}
use Rattle.vx_types.specs.RowValue.{RowValue}
use Rattle.vx_types.specs.declared.layout_name.LayoutName.{LayoutName}
use Rattle.vx_model.specs.Column.{Column, bare_column}
use Rattle.vx_model.specs.Valid.{Valid, nullability_by, cover_by, valid_size, stored_rows}

-- what these layouts have in common
pub record StoredParts : Type 0 where
  pub layout : LayoutName
  pub kind : TypeKind
  -- each row as if it were there
  pub items : List RowValue
  -- the stored bytes of each row, where a row is bytes
  pub records : List (List ℕ)
  -- how deep the columns that the rows are made of nest
  pub inner : ℕ
  pub valid : Valid

-- the items, null where the validity says no; the type is nullable where the validity is
abbrev pub stored_column : StoredParts → Column
stored_column p =
    record (bare_column (record { kind = p.kind; nullability = nullability_by p.valid })
    (stored_rows p.valid p.items) p.layout (max p.inner (valid_size p.valid) + 4)) {
      cover = cover_by p.valid;
      stored = p.records;
    }
