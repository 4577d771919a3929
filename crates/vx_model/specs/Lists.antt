-- Layouts of lists: `List`, `ListView` and `FixedSizeList`. A row is the elements of a span.
use Rattle.std.specs.Prelude.{ℕ, List, [], ◌∷◌, map, Bool, Option, Some, None, if◌then◌else◌}
use Rattle.vx_types.specs.RowValue.{RowValue, list, row_values}
use Rattle.vx_types.specs.TypeTree.{TypeKind, TypeTree, list_kind, fixed_kind, map_kind, struct_kind}
use Rattle.vx_types.specs.declared.nullability.Nullability.TheVariants.{NonNullable}
use Rattle.vx_types.specs.declared.layout_name.LayoutName.{LayoutName}
use Rattle.vx_offsets.specs.Offsets.{items_in}
use Rattle.vx_model.specs.Column.{Column}
use Rattle.vx_model.specs.Stored.{StoredParts, stored_column}
use Rattle.vx_model.specs.Valid.{Valid}

-- what these layouts have in common
pub record ListsParts : Type 0 where
  pub layout : LayoutName
  pub kind : TypeKind
  pub elements : Column
  -- where the elements of each row begin and end, of null rows too
  pub spans : List (ℕ × ℕ)
  pub valid : Valid

-- the type of the elements of lists of this kind; those of a map are structs of a key and a value
abbrev pub elements_type : TypeKind → Option TypeTree
elements_type (list_kind k n) = Some (record { kind = k; nullability = n })
elements_type (fixed_kind k n size) = Some (record { kind = k; nullability = n })
elements_type (map_kind names ts) =
    Some (record { kind = struct_kind names ts; nullability = NonNullable })
elements_type k = None

-- the row of a list of these elements
abbrev pub list_row : List RowValue → RowValue
list_row rows = list (row_values rows)

-- the elements of each row, of null rows too
abbrev pub lists_of : ListsParts → List (List RowValue)
lists_of p = map (items_in p.elements.rows) p.spans

-- a row is the list of its elements, or null where the validity says no
abbrev pub stored_lists : ListsParts → StoredParts
stored_lists p =
    record {
      layout = p.layout;
      kind = p.kind;
      items = map list_row (lists_of p);
      records = [];
      inner = p.elements.depth;
      valid = p.valid;
    }

abbrev pub lists_column : ListsParts → Column
lists_column p = stored_column (stored_lists p)

-- the lists of valid rows, and an empty one in place of each other
abbrev pub kept_lists : {X : Type 0} → List Bool → List (List X) → List (List X)
kept_lists [] lists = []
kept_lists (b ∷ bits) [] = []
kept_lists (b ∷ bits) (x ∷ lists) = (if b then x else []) ∷ kept_lists bits lists
