-- The text of a column: a line for its type, and one for each row.
use Rattle.std.specs.Prelude.{ℕ, ℤ, ◌==◌, Bool, true, false, List, [], ◌∷◌, ◌++◌}
use Rattle.std.specs.Prelude.{codes, decimal, flat_map, map, if◌then◌else◌}
use Rattle.std.specs.Fmt.{signed_decimal}
use Rattle.vx_quote.specs.Quoted.{hex_text, quoted_text}
use Rattle.vx_types.specs.Nullability.{is_nullable}
use Rattle.vx_types.specs.PType.{is_int, number}
use Rattle.vx_types.specs.TypeTree.{TypeKind, TypeTree, TypeTrees, null_kind, bool_kind}
use Rattle.vx_types.specs.TypeTree.{primitive_kind, decimal_kind, utf8_kind, binary_kind, list_kind}
use Rattle.vx_types.specs.TypeTree.{fixed_kind, map_kind, struct_kind, union_kind, extension_kind}
use Rattle.vx_types.specs.TypeTree.{no_types, more_types}
use Rattle.vx_types.specs.RowValue.{RowValue, RowValues, null, bit, bytes, list, fields, tagged}
use Rattle.vx_types.specs.RowValue.{none, more}
use Rattle.vx_types.specs.declared.nullability.Nullability.{Nullability}
use Rattle.vx_types.specs.declared.ptype.PType.{PType}
use Rattle.vx_types.specs.declared.ptype.PType.TheVariants.{U8, U16, U32, U64, I8, I16, I32, I64}
use Rattle.vx_types.specs.declared.ptype.PType.TheVariants.{F16, F32, F64}

-- ---- words

-- texts with `, ` between them
abbrev pub comma_list : List (List ℕ) → List ℕ
comma_list [] = []
comma_list (t ∷ ts) = t ++ flat_map (λ u. codes ", " ++ u) ts

-- what stands in front of a text of such a list
abbrev pub gap : Bool → List ℕ
gap true = []
gap false = codes ", "

-- each text behind its label, where there are labels
abbrev pub with_labels : List (List ℕ) → List (List ℕ) → List (List ℕ)
with_labels [] ts = ts
with_labels (l ∷ ls) [] = []
with_labels (l ∷ ls) (t ∷ ts) = (l ++ t) ∷ with_labels ls ts

-- what stands in front of a field
abbrev pub name_label : List ℕ → List ℕ
name_label name = quoted_text name ++ codes ": "

-- what stands in front of a variant's name
abbrev pub id_label : ℕ → List ℕ
id_label id = decimal id ++ codes " "

-- ---- types

abbrev pub ptype_text : PType → List ℕ
ptype_text U8 = codes "u8"
ptype_text U16 = codes "u16"
ptype_text U32 = codes "u32"
ptype_text U64 = codes "u64"
ptype_text I8 = codes "i8"
ptype_text I16 = codes "i16"
ptype_text I32 = codes "i32"
ptype_text I64 = codes "i64"
ptype_text F16 = codes "f16"
ptype_text F32 = codes "f32"
ptype_text F64 = codes "f64"

-- precision, scale, and the stored width in bytes
abbrev pub decimal_text : ℕ → ℤ → ℕ → List ℕ
decimal_text precision scale width =
    codes "decimal(" ++ decimal precision ++ codes "," ++ signed_decimal scale ++ codes ","
    ++ decimal width ++ codes ")"

abbrev pub mark : Nullability → List ℕ
mark n = if is_nullable n then codes "?" else []

-- a nullable type other than null has a mark at its end
abbrev pub mark_of : TypeKind → Nullability → List ℕ
mark_of null_kind n = []
mark_of k n = mark n

abbrev mutual
  pub kind_text : TypeKind → List ℕ
  kind_text null_kind = codes "null"
  kind_text bool_kind = codes "bool"
  kind_text (primitive_kind p) = ptype_text p
  kind_text (decimal_kind p s w) = decimal_text p s w
  kind_text utf8_kind = codes "utf8"
  kind_text binary_kind = codes "binary"
  kind_text (list_kind k n) = codes "list(" ++ (kind_text k ++ mark_of k n) ++ codes ")"
  kind_text (fixed_kind k n size) =
      codes "fixed(" ++ (kind_text k ++ mark_of k n) ++ (codes ", " ++ decimal size) ++ codes ")"
  -- of a key and a value, without their names
  kind_text (map_kind names ts) = codes "map(" ++ comma_list (type_texts ts) ++ codes ")"
  kind_text (struct_kind names ts) =
      codes "struct{" ++ comma_list (with_labels (map name_label names) (type_texts ts))
      ++ codes "}"
  kind_text (union_kind ids names ts) =
      codes "union{"
      ++ comma_list (with_labels (map id_label ids)
      (with_labels (map name_label names) (type_texts ts)))
      ++ codes "}"
  -- the storage has no mark of its own
  kind_text (extension_kind name k) =
      codes "ext(" ++ quoted_text name ++ codes ", " ++ kind_text k ++ codes ")"

  -- the text of each type
  pub type_texts : TypeTrees → List (List ℕ)
  type_texts no_types = []
  type_texts (more_types k n ts) = (kind_text k ++ mark_of k n) ∷ type_texts ts

abbrev pub type_text : TypeTree → List ℕ
type_text t = kind_text t.kind ++ mark_of t.kind t.nullability

-- ---- rows

abbrev pub bit_text : Bool → List ℕ
bit_text true = codes "true"
bit_text false = codes "false"

-- a record of a primitive type: an integer in decimal digits, a float in hexadecimal ones
abbrev pub primitive_text : PType → List ℕ → List ℕ
primitive_text p b = if is_int p then signed_decimal (number p b) else hex_text b

-- an extension's row is its storage's
abbrev pub bytes_text : TypeKind → List ℕ → List ℕ
bytes_text (primitive_kind p) b = primitive_text p b
bytes_text (decimal_kind p s w) b = hex_text b
bytes_text utf8_kind b = quoted_text b
bytes_text binary_kind b = hex_text b
bytes_text (extension_kind name k) b = bytes_text k b
bytes_text k b = []

-- the kind of the rows in a list of this kind; a map's are structs
abbrev pub item_kind : TypeKind → TypeKind
item_kind (list_kind k n) = k
item_kind (fixed_kind k n size) = k
item_kind (map_kind names ts) = struct_kind names ts
item_kind (extension_kind name k) = item_kind k
item_kind k = null_kind

-- the names and types of the fields of a row of this kind
abbrev pub field_names : TypeKind → List (List ℕ)
field_names (struct_kind names ts) = names
field_names (extension_kind name k) = field_names k
field_names k = []

abbrev pub field_types : TypeKind → TypeTrees
field_types (struct_kind names ts) = ts
field_types (extension_kind name k) = field_types k
field_types k = no_types

-- the kind that stands where the id does
abbrev pub kind_by_id : List ℕ → TypeTrees → ℕ → TypeKind
kind_by_id [] ts id = null_kind
kind_by_id (i ∷ is) no_types id = null_kind
kind_by_id (i ∷ is) (more_types k n ts) id = if i == id then k else kind_by_id is ts id

-- the kind of the variant of this id
abbrev pub variant_kind : TypeKind → ℕ → TypeKind
variant_kind (union_kind ids names ts) id = kind_by_id ids ts id
variant_kind (extension_kind name k) id = variant_kind k id
variant_kind k id = null_kind

abbrev mutual
  -- a row of a column of this kind
  pub row_text_as : TypeKind → RowValue → List ℕ
  row_text_as k null = codes "null"
  row_text_as k (bit b) = bit_text b
  row_text_as k (bytes b) = bytes_text k b
  row_text_as k (list xs) = codes "[" ++ comma_list (item_texts (item_kind k) xs) ++ codes "]"
  row_text_as k (fields xs) =
      codes "{"
      ++ comma_list (with_labels (map name_label (field_names k)) (field_texts (field_types k) xs))
      ++ codes "}"
  row_text_as k (tagged id x) = decimal id ++ codes ":" ++ row_text_as (variant_kind k id) x

  -- the rows in a list, of one kind
  pub item_texts : TypeKind → RowValues → List (List ℕ)
  item_texts k none = []
  item_texts k (more x xs) = row_text_as k x ∷ item_texts k xs

  -- the rows of fields, each of its own kind
  pub field_texts : TypeTrees → RowValues → List (List ℕ)
  field_texts ts none = []
  field_texts no_types (more x xs) = []
  field_texts (more_types k n ts) (more x xs) = row_text_as k x ∷ field_texts ts xs

-- a row of a column of this type
abbrev pub row_text : TypeTree → RowValue → List ℕ
row_text t x = row_text_as t.kind x

-- a row that holds no other rows, with the text of bytes by f
abbrev pub row_text_by : (List ℕ → List ℕ) → RowValue → List ℕ
row_text_by f null = codes "null"
row_text_by f (bit b) = bit_text b
row_text_by f (bytes b) = f b
row_text_by f x = []

-- ---- lines

abbrev pub line : List ℕ → List ℕ
line text = text ++ 10 ∷ []

-- a line for each item, with its text by f
abbrev pub lines : {X : Type 0} → (X → List ℕ) → List X → List ℕ
lines f xs = flat_map (λ x. line (f x)) xs

-- the type's line, and a line for each row
abbrev pub text : TypeTree → List RowValue → List ℕ
text t rows = line (type_text t) ++ lines (row_text t) rows
