-- A type, with no pointers: what a `DType` stands for. A type is a kind and a nullability, so what
-- doesn't look at the nullability is said of kinds.
use Rattle.std.specs.Prelude.{ℕ, ◌+◌, max, ℤ, Bool, true, false, ◌&&◌, not, List, [], ◌∷◌, Option, Some, None, if◌then◌else◌}
use Rattle.vx_types.specs.Nullability.{is_nullable, either_nullable}
use Rattle.vx_types.specs.PType.{width, is_int}
use Rattle.vx_types.specs.declared.ptype.PType.{PType}
use Rattle.vx_types.specs.declared.nullability.Nullability.{Nullability}
use Rattle.vx_types.specs.declared.nullability.Nullability.TheVariants.{Nullable}

mutual
  pub data TypeKind : Type 0 where
    null_kind : TypeKind
    bool_kind : TypeKind
    primitive_kind : PType → TypeKind
    -- precision, scale, and the stored width in bytes
    decimal_kind : ℕ → ℤ → ℕ → TypeKind
    utf8_kind : TypeKind
    binary_kind : TypeKind
    -- the elements' type
    list_kind : TypeKind → Nullability → TypeKind
    -- the elements' type, and how many each list has
    fixed_kind : TypeKind → Nullability → ℕ → TypeKind
    -- names and types of the entries' fields
    map_kind : List (List ℕ) → TypeTrees → TypeKind
    struct_kind : List (List ℕ) → TypeTrees → TypeKind
    -- ids, names and types of the variants
    union_kind : List ℕ → List (List ℕ) → TypeTrees → TypeKind
    -- the name, and the storage's kind: its nullability is the extension's
    extension_kind : List ℕ → TypeKind → TypeKind

  pub data TypeTrees : Type 0 where
    no_types : TypeTrees
    -- the first type's kind and nullability, and the other types
    more_types : TypeKind → Nullability → TypeTrees → TypeTrees

pub record TypeTree : Type 0 where
  pub kind : TypeKind
  -- whether null rows are allowed; of the null kind they always are
  pub nullability : Nullability

abbrev pub types_of : List TypeTree → TypeTrees
types_of [] = no_types
types_of (t ∷ ts) = more_types t.kind t.nullability (types_of ts)

-- ---- the types of flat columns and of text

abbrev pub null_type : TypeTree
null_type = record { kind = null_kind; nullability = Nullable }

abbrev pub bool_type : Nullability → TypeTree
bool_type n = record { kind = bool_kind; nullability = n }

abbrev pub primitive_type : PType → Nullability → TypeTree
primitive_type p n = record { kind = primitive_kind p; nullability = n }

abbrev pub decimal_type : ℕ → ℤ → ℕ → Nullability → TypeTree
decimal_type p s w n = record { kind = decimal_kind p s w; nullability = n }

abbrev pub utf8_type : Nullability → TypeTree
utf8_type n = record { kind = utf8_kind; nullability = n }

abbrev pub binary_type : Nullability → TypeTree
binary_type n = record { kind = binary_kind; nullability = n }

-- ---- the types of nested columns

abbrev pub list_type : TypeTree → Nullability → TypeTree
list_type t n = record { kind = list_kind t.kind t.nullability; nullability = n }

abbrev pub fixed_type : TypeTree → ℕ → Nullability → TypeTree
fixed_type t size n = record { kind = fixed_kind t.kind t.nullability size; nullability = n }

abbrev pub map_type : List (List ℕ) → List TypeTree → Nullability → TypeTree
map_type names ts n = record { kind = map_kind names (types_of ts); nullability = n }

abbrev pub struct_type : List (List ℕ) → List TypeTree → Nullability → TypeTree
struct_type names ts n = record { kind = struct_kind names (types_of ts); nullability = n }

abbrev pub union_type : List ℕ → List (List ℕ) → List TypeTree → Nullability → TypeTree
union_type ids names ts n = record { kind = union_kind ids names (types_of ts); nullability = n }

-- the storage's nullability is the extension's
abbrev pub extension_type : List ℕ → TypeTree → Nullability → TypeTree
extension_type name t n = record { kind = extension_kind name t.kind; nullability = n }

-- ---- nullability

-- the null kind is nullable, whatever is asked
abbrev pub nullability_as : TypeKind → Nullability → Nullability
nullability_as null_kind m = Nullable
nullability_as k m = m

-- the type with this outer nullability; `null` stays as it is
abbrev pub with_nullability : TypeTree → Nullability → TypeTree
with_nullability t m = record { kind = t.kind; nullability = nullability_as t.kind m }

-- the type, nullable where it or n is
abbrev pub also_nullable : TypeTree → Nullability → TypeTree
also_nullable t n = record { kind = t.kind; nullability = either_nullable t.nullability n }

-- ---- kinds

abbrev pub is_bool_kind : TypeKind → Bool
is_bool_kind bool_kind = true
is_bool_kind k = false

abbrev pub is_primitive_kind : TypeKind → Bool
is_primitive_kind (primitive_kind p) = true
is_primitive_kind k = false

abbrev pub is_decimal_kind : TypeKind → Bool
is_decimal_kind (decimal_kind p s w) = true
is_decimal_kind k = false

abbrev pub is_flat_kind : TypeKind → Bool
is_flat_kind null_kind = true
is_flat_kind bool_kind = true
is_flat_kind (primitive_kind p) = true
is_flat_kind (decimal_kind p s w) = true
is_flat_kind k = false

-- null, bool, primitive and decimal
abbrev pub is_flat : TypeTree → Bool
is_flat t = is_flat_kind t.kind

abbrev pub kind_width : TypeKind → Option ℕ
kind_width (primitive_kind p) = Some (width p)
kind_width (decimal_kind p s w) = Some w
kind_width k = None

-- bytes of a value, of a primitive or decimal type
abbrev pub type_width : TypeTree → Option ℕ
type_width t = kind_width t.kind

abbrev pub is_int_kind : TypeKind → Bool
is_int_kind (primitive_kind p) = is_int p
is_int_kind k = false

abbrev pub is_int_type : TypeTree → Bool
is_int_type t = is_int_kind t.kind

abbrev pub int_kind_of : TypeKind → Option PType
int_kind_of (primitive_kind p) = if is_int p then Some p else None
int_kind_of k = None

-- the primitive type, of a type of integers
abbrev pub int_type_of : TypeTree → Option PType
int_type_of t = int_kind_of t.kind

-- two types, the first of them non-nullable
abbrev pub are_entries : TypeTrees → Bool
are_entries (more_types k n (more_types v m no_types)) = not (is_nullable n)
are_entries ts = false

abbrev pub is_entry_kind : TypeKind → Bool
is_entry_kind (struct_kind names ts) = are_entries ts
is_entry_kind k = false

-- a struct of two fields, the first non-nullable, that is non-nullable itself
abbrev pub is_entry_type : TypeTree → Bool
is_entry_type t = is_entry_kind t.kind && not (is_nullable t.nullability)

-- ---- carried: the types that a column may have

abbrev mutual
  -- a type of this kind and nullability is one that a column may have
  pub is_carried_as : TypeKind → Nullability → Bool
  is_carried_as null_kind m = is_nullable m
  is_carried_as bool_kind m = true
  is_carried_as (primitive_kind p) m = true
  is_carried_as (decimal_kind p s w) m = true
  is_carried_as utf8_kind m = true
  is_carried_as binary_kind m = true
  is_carried_as (list_kind k n) m = is_carried_as k n
  is_carried_as (fixed_kind k n size) m = is_carried_as k n
  is_carried_as (map_kind ns ts) m = are_entries ts && are_carried ts
  is_carried_as (struct_kind ns ts) m = are_carried ts
  is_carried_as (union_kind is ns ts) m = are_carried ts
  is_carried_as (extension_kind s k) m = is_carried_as k m

  pub are_carried : TypeTrees → Bool
  are_carried no_types = true
  are_carried (more_types k n ts) = is_carried_as k n && are_carried ts

abbrev pub is_carried : TypeTree → Bool
is_carried t = is_carried_as t.kind t.nullability

-- ---- how deep it nests
abbrev mutual
  pub kind_size : TypeKind → ℕ
  kind_size null_kind = 0
  kind_size bool_kind = 0
  kind_size (primitive_kind p) = 0
  kind_size (decimal_kind p s w) = 0
  kind_size utf8_kind = 0
  kind_size binary_kind = 0
  kind_size (list_kind k n) = kind_size k + 1
  kind_size (fixed_kind k n size) = kind_size k + 1
  kind_size (map_kind ns ts) = types_size ts + 1
  kind_size (struct_kind ns ts) = types_size ts + 1
  kind_size (union_kind is ns ts) = types_size ts + 1
  kind_size (extension_kind s k) = kind_size k + 1

  pub types_size : TypeTrees → ℕ
  types_size no_types = 0
  types_size (more_types k n ts) = max (kind_size k) (types_size ts)

abbrev pub type_size : TypeTree → ℕ
type_size t = kind_size t.kind
