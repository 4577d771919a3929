-- What a JSON value means as a column of layout `Map`.
use Rattle.std.specs.Prelude.{[], ◌∷◌, ◌&&◌, if◌then◌else◌, Bool, Option, Some, None, codes}
use Rattle.serde_json.specs.Data.{Data}
use Rattle.vx_types.specs.TypeTree.{TypeKind, TypeTree, list_kind, null_type, is_entry_type}
use Rattle.vx_types.specs.declared.layout_name.LayoutName.TheVariants as layouts
use Rattle.vx_model.specs.Column.{Column}
use Rattle.vx_model.specs.Map.{map_of}
use Rattle.vx_model.specs.Plain.{is_listview_layout}
use Rattle.vx_json.specs.Members.{is_closed}

-- the type of the elements of lists
abbrev pub elements_in : TypeKind → TypeTree
elements_in (list_kind k n) = record { kind = k; nullability = n }
elements_in k = null_type

-- the rows of entries as maps
abbrev pub as_map : Column → Column
as_map c =
    record c {
      layout = layouts.Map;
      dtype = record {
        kind = map_of (elements_in c.dtype.kind).kind;
        nullability = c.dtype.nullability;
      };
    }

-- list views of structs of a key and a value
abbrev pub are_entries : Column → Bool
are_entries c = is_listview_layout c.layout && is_entry_type (elements_in c.dtype.kind)

unfoldable pub map_made : Column → Option Column
map_made entries = if are_entries entries then Some (as_map entries) else None

unfoldable pub map_by : Data → Column → Option Column
map_by d entries =
    if is_closed (codes "layout" ∷ codes "entries" ∷ []) d then map_made entries else None
