-- A row that stands where no row is shown.
use Rattle.std.specs.Prelude.{ℕ, List, [], ◌∷◌, replicate, false, if◌then◌else◌}
use Rattle.vx_types.specs.Nullability.{is_nullable}
use Rattle.vx_types.specs.PType.{width}
use Rattle.vx_types.specs.RowValue.{RowValue, RowValues, null, bit, bytes, list, fields, tagged, none, more, row_values}
use Rattle.vx_types.specs.TypeTree.{TypeKind, TypeTree, TypeTrees, null_kind, bool_kind, primitive_kind, decimal_kind, utf8_kind, binary_kind, list_kind, fixed_kind, map_kind, struct_kind, union_kind, extension_kind, no_types, more_types}

abbrev mutual
  -- zeros, an empty text, an empty list, or a row of the first variant; inside it, a null where a
  -- type has one
  pub filler_value : TypeKind → RowValue
  filler_value null_kind = null
  filler_value bool_kind = bit false
  filler_value (primitive_kind p) = bytes (replicate (width p) 0)
  filler_value (decimal_kind p s w) = bytes (replicate w 0)
  filler_value utf8_kind = bytes []
  filler_value binary_kind = bytes []
  filler_value (list_kind k n) = list none
  filler_value (fixed_kind k n size) =
      list (row_values (replicate size (if is_nullable n then null else filler_value k)))
  filler_value (map_kind ns ts) = list none
  filler_value (struct_kind ns ts) = fields (filler_values ts)
  filler_value (union_kind is ns ts) = first_filler is ts
  filler_value (extension_kind s k) = filler_value k

  pub filler_values : TypeTrees → RowValues
  filler_values no_types = none
  filler_values (more_types k n ts) =
      more (if is_nullable n then null else filler_value k) (filler_values ts)

  pub first_filler : List ℕ → TypeTrees → RowValue
  first_filler (i ∷ is) (more_types k n ts) =
      tagged i (if is_nullable n then null else filler_value k)
  first_filler is ts = null

-- a null where the type has one, else such a value
abbrev pub filler_row : TypeTree → RowValue
filler_row t = if is_nullable t.nullability then null else filler_value t.kind
