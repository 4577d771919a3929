-- What a JSON value means as a column, which may hold columns.
use Rattle.std.specs.Prelude.{ℕ, List, [], ◌∷◌, if◌then◌else◌, Option, Some, None, codes, bytes_eq}
use Rattle.std.specs.Ordering.{nat_cmp, match_ordering}
use Rattle.std.specs.Cmp.Lexicographic.{slice_cmp}
use Rattle.serde_json.specs.Data.{Data, null, boolean, number, string, array, object, Items, no_items, item, Members, no_members, member}
use Rattle.serde_json.specs.Find.{get, as_str}
use Rattle.vx_model.specs.Column.{Column}
use Rattle.vx_plain.specs.Flat.{flat_fault}
use Rattle.vx_json.specs.Meaning.{◌>>=◌, unless_fault}
use Rattle.vx_column_json.specs.Validity.{validity_alone, validity_stated}
use Rattle.vx_column_json.specs.Null.{null_by}
use Rattle.vx_column_json.specs.Boolean.{bool_by}
use Rattle.vx_column_json.specs.Primitive.{primitive_by}
use Rattle.vx_column_json.specs.Decimal.{decimal_by}
use Rattle.vx_column_json.specs.VarBin.{varbin_by}
use Rattle.vx_column_json.specs.VarBinView.{views_by}
use Rattle.vx_column_json.specs.Constant.{constant_by}
use Rattle.vx_column_json.specs.Dict.{dict_by}
use Rattle.vx_column_json.specs.Filter.{filter_by}
use Rattle.vx_column_json.specs.Lists.{lists_by}
use Rattle.vx_column_json.specs.Map.{map_by}
use Rattle.vx_column_json.specs.Struct.{struct_by}
use Rattle.vx_column_json.specs.Union.{union_by}
use Rattle.vx_column_json.specs.Extension.{extension_by}

-- the column that each member of an object means, by the member's name
abbrev pub Inner : Type 0
Inner = List ℕ → Option Column

-- the columns that each member means, which is a list of them
abbrev pub InnerLists : Type 0
InnerLists = List ℕ → Option (List Column)

unfoldable pub dict_in : Data → Inner → Option Column
dict_in d inner = do
  values ← inner (codes "values")
  named ← inner (codes "codes")
  dict_by d named values

unfoldable pub filter_in : Data → Inner → Option Column
filter_in d inner = inner (codes "child") >>= filter_by d

unfoldable pub extension_in : Data → Inner → Option Column
extension_in d inner = inner (codes "storage") >>= extension_by d

unfoldable pub map_in : Data → Inner → Option Column
map_in d inner = inner (codes "entries") >>= map_by d

unfoldable pub struct_in : Data → Inner → InnerLists → Option Column
struct_in d inner lists = do
  stated ← validity_stated d inner
  fields ← lists (codes "fields")
  struct_by d fields (validity_alone stated)

unfoldable pub union_in : Data → Inner → InnerLists → Option Column
union_in d inner lists = do
  ids ← inner (codes "type_ids")
  children ← lists (codes "children")
  union_by d ids children

unfoldable pub lists_in : Data → Inner → List ℕ → Option Column
lists_in d inner layout = do
  stated ← validity_stated d inner
  elements ← inner (codes "elements")
  lists_by d elements (validity_alone stated) layout

-- by the name of a layout, which may be one of lists
abbrev pub by_layout : Data → Inner → InnerLists → List ℕ → Option Column
by_layout d inner lists layout =
    if bytes_eq layout (codes "Null") then null_by d
    else if bytes_eq layout (codes "Bool") then validity_stated d inner >>= bool_by d
    else if bytes_eq layout (codes "Primitive") then validity_stated d inner >>= primitive_by d
    else if bytes_eq layout (codes "Decimal") then validity_stated d inner >>= decimal_by d
    else if bytes_eq layout (codes "VarBin") then validity_stated d inner >>= varbin_by d
    else if bytes_eq layout (codes "VarBinView") then validity_stated d inner >>= views_by d
    else if bytes_eq layout (codes "Constant") then constant_by d
    else if bytes_eq layout (codes "Dict") then dict_in d inner
    else if bytes_eq layout (codes "Filter") then filter_in d inner
    else if bytes_eq layout (codes "Map") then map_in d inner
    else if bytes_eq layout (codes "Struct") then struct_in d inner lists
    else if bytes_eq layout (codes "Union") then union_in d inner lists
    else if bytes_eq layout (codes "Extension") then extension_in d inner
    else lists_in d inner layout

-- one column in front of others, where there are both
abbrev pub one_more : Option Column → Option (List Column) → Option (List Column)
one_more None cs = None
one_more (Some c) None = None
one_more (Some c) (Some cs) = Some (c ∷ cs)

-- by what the members mean
unfoldable pub column_by : Data → Inner → InnerLists → Option Column
column_by d inner lists = get (codes "layout") d >>= as_str >>= by_layout d inner lists

abbrev mutual
  pub column_of : Data → Option Column
  column_of null = None
  column_of (boolean b) = None
  column_of (number n) = None
  column_of (string s) = None
  column_of (array ds) = None
  column_of (object ms) = column_by (object ms) (λ k. column_in k ms) (λ k. columns_in k ms)

  -- the column that the member k means
  pub column_in : List ℕ → Members → Option Column
  column_in k no_members = None
  column_in k (member l d ms) =
      match_ordering (slice_cmp nat_cmp k l) (column_in k ms) (column_of d) (column_in k ms)

  -- the columns that the items of the member k mean
  pub columns_in : List ℕ → Members → Option (List Column)
  columns_in k no_members = None
  columns_in k (member l d ms) =
      match_ordering (slice_cmp nat_cmp k l) (columns_in k ms) (columns_of d) (columns_in k ms)

  -- the columns that the items of a list mean
  pub columns_of : Data → Option (List Column)
  columns_of null = None
  columns_of (boolean b) = None
  columns_of (number n) = None
  columns_of (string s) = None
  columns_of (array ds) = each_column ds
  columns_of (object ms) = None

  pub each_column : Items → Option (List Column)
  each_column no_items = Some []
  each_column (item d ds) = one_more (column_of d) (each_column ds)

-- the columns that the members of a value mean
abbrev pub inner_of : Data → Inner
inner_of d k = get k d >>= column_of

abbrev pub inner_lists_of : Data → InnerLists
inner_lists_of d k = get k d >>= columns_of

-- a column, where its type is flat
unfoldable pub flat_of : Column → Option Column
flat_of c = unless_fault (flat_fault c) c
