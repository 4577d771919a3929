-- Layout `Extension`: a storage column under a name.
use Rattle.std.specs.Prelude.{ℕ, ◌+◌, Option, Some, None, if◌then◌else◌, refl}
use Rattle.std.specs.Coded.{Coded, code_by, coded×}
use Rattle.vx_types.specs.FieldTypes.{ExtensionType, coded_extension}
use Rattle.vx_types.specs.Same.{is_same_kind}
use Rattle.vx_types.specs.TypeTree.{TypeKind, TypeTree, null_kind, bool_kind, primitive_kind, decimal_kind, utf8_kind, binary_kind, list_kind, fixed_kind, map_kind, struct_kind, union_kind, extension_kind}
use Rattle.vx_types.specs.declared.layout_name.LayoutName.TheVariants.{Extension as ExtensionLayout}
use Rattle.vx_types.specs.declared.error.ColumnError.{ColumnError}
use Rattle.vx_types.specs.declared.error.ColumnError.TheVariants.{WrongType}
use Rattle.vx_model.specs.Column.{Column, bare_column}
use Rattle.vx_model.specs.ColumnCode.{coded_column}

-- what a contract sees of an `ExtensionArray`
pub record ExtensionParts : Type 0 where
  -- the name, and the storage type without its outer nullability
  pub ext : ExtensionType
  pub storage : Column

-- why they are no column: the storage's type differs in more than outer nullability
abbrev pub extension_fault : ExtensionParts → Option ColumnError
extension_fault p =
    if is_same_kind p.ext.storage.kind p.storage.dtype.kind then None else Some WrongType

-- nullable where the storage is
abbrev pub extension_dtype : ExtensionParts → TypeTree
extension_dtype p =
    record {
      kind = extension_kind p.ext.name p.ext.storage.kind;
      nullability = p.storage.dtype.nullability;
    }

-- nested in the storage
abbrev pub extension_size : ExtensionParts → ℕ
extension_size p = p.storage.depth + 1

-- a row is the storage's
abbrev pub extension_column : ExtensionParts → Column
extension_column p =
    record (bare_column (extension_dtype p) p.storage.rows ExtensionLayout (extension_size p + 1)) {
      dense = p.storage.dense;
    }

-- the extension over another storage: what a step leaves
abbrev pub extension_with : ExtensionParts → Column → ExtensionParts
extension_with p storage = record p { storage = storage }

-- the kind of the rows that are stored, whatever extensions it is under
abbrev pub storage_kind : TypeKind → TypeKind
storage_kind null_kind = null_kind
storage_kind bool_kind = bool_kind
storage_kind (primitive_kind p) = primitive_kind p
storage_kind (decimal_kind p s w) = decimal_kind p s w
storage_kind utf8_kind = utf8_kind
storage_kind binary_kind = binary_kind
storage_kind (list_kind k n) = list_kind k n
storage_kind (fixed_kind k n size) = fixed_kind k n size
storage_kind (map_kind ns ts) = map_kind ns ts
storage_kind (struct_kind ns ts) = struct_kind ns ts
storage_kind (union_kind is ns ts) = union_kind is ns ts
storage_kind (extension_kind s k) = storage_kind k

abbrev pub storage_type : TypeTree → TypeTree
storage_type t = record { kind = storage_kind t.kind; nullability = t.nullability }

abbrev pub coded_extension_parts : Coded ExtensionParts
coded_extension_parts =
    code_by (ExtensionType × Column) (coded× coded_extension coded_column)
    (λ p. (p.ext, p.storage)) (λ f. record { ext = f.0; storage = f.1 }) (λ _. refl)
