-- Layout `Map`: list views of entries, each a struct of a key and a value.
use Rattle.std.specs.Prelude.{Option, Some, None, if◌then◌else◌}
use Rattle.vx_types.specs.TypeTree.{TypeKind, is_entry_type, map_kind, struct_kind}
use Rattle.vx_types.specs.declared.layout_name.LayoutName.TheVariants.{Map as MapLayout}
use Rattle.vx_types.specs.declared.error.ColumnError.{ColumnError}
use Rattle.vx_types.specs.declared.error.ColumnError.TheVariants.{WrongType}
use Rattle.vx_model.specs.Column.{Column}
use Rattle.vx_model.specs.ListView.{ListViewParts, listview_spans}
use Rattle.vx_model.specs.Lists.{ListsParts, lists_column}

-- why the list views, which are a column, are no map's entries
abbrev pub map_fault : ListViewParts → Option ColumnError
map_fault p = if is_entry_type p.elements.dtype then None else Some WrongType

-- the kind of a map of such entries
abbrev pub map_of : TypeKind → TypeKind
map_of (struct_kind names ts) = map_kind names ts
map_of k = k

-- the rows of the list views, of another type
abbrev pub map_spans : ListViewParts → ListsParts
map_spans p = record (listview_spans p) { layout = MapLayout; kind = map_of p.elements.dtype.kind }

abbrev pub map_column : ListViewParts → Column
map_column p = lists_column (map_spans p)
