-- The texts of a row and of a column are of ASCII alone.
use Rattle.std.proofs.Common.{◌≡◌, ℕ, zero, suc, ◌+◌, ◌/◌, ◌%◌, ◌<◌, Bool, true, false, List, [], ◌∷◌, ◌++◌, map, refl, subst, arith}
use Rattle.std.specs.Prelude.{ℤ, Option, None, Some, pos, negsuc, codes, decimal, flat_map, nat_lt, ◌==◌, if◌then◌else◌}
use Rattle.std.specs.Fmt.{digit_glyph, digits, digits_onto, signed_decimal}
use Rattle.std.specs.List.{list_all}
use Rattle.std.specs.Option.{option_map}
use Rattle.std.specs.Str.{IsAscii, IsUtf8}
use Rattle.std.proofs.lemmas.Bool.{and_parts}
use Rattle.std.proofs.lemmas.Bool.Decides.{nat_tests}
use Rattle.std.proofs.lemmas.Str.{IsAscii-append, IsUtf8-from_ascii}
use Rattle.std.proofs.lemmas.Str.Ascii.{IsAscii-nil, IsAscii-cons}
use Rattle.hex.specs.Hex.{encode_lower, lower_digits}
use Rattle.hex.proofs.HexLemmas.{IsAscii-encode_with}
use Rattle.vx_types.specs.Nullability.{is_nullable}
use Rattle.vx_types.specs.PType.{is_int, number}
use Rattle.vx_types.specs.RowValue.{RowValue, RowValues, null, bit, bytes, list, fields, tagged, none, more}
use Rattle.vx_types.specs.TypeTree.{TypeKind, TypeTree, TypeTrees, null_kind, bool_kind, primitive_kind, decimal_kind, utf8_kind, binary_kind, list_kind, fixed_kind, map_kind, struct_kind, union_kind, extension_kind, no_types, more_types}
use Rattle.vx_types.specs.declared.nullability.Nullability.{Nullability}
use Rattle.vx_types.specs.declared.ptype.PType.{PType}
use Rattle.vx_types.specs.declared.ptype.PType.TheVariants.{U8, U16, U32, U64, I8, I16, I32, I64, F16, F32, F64}
use Rattle.vx_quote.specs.Quoted.{hex_text, is_plain, quoted_byte, quoted_text}
use Rattle.vx_print.specs.Text.{bit_text, bytes_text, comma_list, decimal_text, field_names, field_texts, field_types, id_label, item_kind, item_texts, kind_text, lines, mark, mark_of, name_label, ptype_text, row_text, row_text_as, text, type_texts, variant_kind, with_labels}

-- ---- lists of bytes

record Low (bs : List ℕ) : Type 0 where
  pub ascii : IsAscii bs

no_bytes : Low []
no_bytes = record { ascii = IsAscii-nil }

byte : (b : ℕ) {bs : List ℕ} → b < 128 → Low bs → Low (b ∷ bs)
byte b {bs} h l = record { ascii = IsAscii-cons b bs h l.ascii }

infixl 20 ◌&◌
◌&◌ : {xs ys : List ℕ} → Low xs → Low ys → Low (xs ++ ys)
◌&◌ {xs} {ys} h g = record { ascii = IsAscii-append xs ys h.ascii g.ascii }

low : (b : ℕ) → nat_lt b 128 ≡ true → b < 128
low b h = grind (arith, nat_tests)

-- a text that computes
word : (bs : List ℕ) → list_all (λ b. nat_lt b 128) bs ≡ true → Low bs
word [] h = no_bytes
word (b ∷ bs) h =
    let parts = and_parts (nat_lt b 128) (list_all (λ (x : ℕ). nat_lt x 128) bs) h in
    byte b (low b parts.0) (word bs parts.1)

either : (b : Bool) {xs ys : List ℕ} → Low xs → Low ys → Low (if b then xs else ys)
either true h g = h
either false h g = g

mapped : (f : ℕ → List ℕ) → ((b : ℕ) → Low (f b)) → (bs : List ℕ) → Low (flat_map f bs)
mapped f h [] = no_bytes
mapped f h (b ∷ bs) = h b & mapped f h bs

-- ---- digits

glyph : (d : ℕ) → d < 10 → digit_glyph false d < 128
glyph d h = grind (arith, nat_tests)

digits_low : (k n : ℕ) {acc : List ℕ} → Low acc → Low (digits_onto k 10 false n acc)
digits_low zero n h = h
digits_low (suc k) n h =
    let next = byte (digit_glyph false (n % 10)) (glyph (n % 10) (omega arith)) h in
    either (n / 10 == 0) next (digits_low k (n / 10) next)

decimal_low : (n : ℕ) → Low (decimal n)
unfolding digits
decimal_low n = digits_low 64 n no_bytes

signed_low : (z : ℤ) → Low (signed_decimal z)
signed_low (pos n) = decimal_low n
signed_low (negsuc n) = byte 45 (omega arith) (decimal_low (suc n))

hex_low : (bs : List ℕ) → Low (encode_lower bs)
hex_low bs = record { ascii = IsAscii-encode_with lower_digits bs (word lower_digits refl).ascii }

hex_text_low : (bs : List ℕ) → Low (hex_text bs)
hex_text_low bs = word (codes "0x") refl & hex_low bs

-- ---- quotes

plain : (b : ℕ) → is_plain b ≡ true → b < 128
plain b h = grind (arith, nat_tests)

byte_by : (b : ℕ) (p : Bool) → is_plain b ≡ p → Low (if p then b ∷ [] else codes "\\x" ++ encode_lower (b ∷ []))
byte_by b true h = byte b (plain b h) no_bytes
byte_by b false h = word (codes "\\x") refl & hex_low (b ∷ [])

quoted_low : (bs : List ℕ) → Low (quoted_text bs)
quoted_low bs = word (codes "\"") refl & mapped quoted_byte (λ b. byte_by b (is_plain b) refl) bs & word (codes "\"") refl

-- ---- lists of texts

data AllLow : List (List ℕ) → Type 0 where
  none_low : AllLow []
  more_low : {t : List ℕ} {ts : List (List ℕ)} → Low t → AllLow ts → AllLow (t ∷ ts)

after_first : {ts : List (List ℕ)} → AllLow ts → Low (flat_map (λ u. codes ", " ++ u) ts)
after_first none_low = no_bytes
after_first (more_low h hs) = word (codes ", ") refl & h & after_first hs

commas : {ts : List (List ℕ)} → AllLow ts → Low (comma_list ts)
commas none_low = no_bytes
commas (more_low h hs) = h & after_first hs

labelled : {ls ts : List (List ℕ)} → AllLow ls → AllLow ts → AllLow (with_labels ls ts)
labelled none_low g = g
labelled (more_low h hs) none_low = none_low
labelled (more_low h hs) (more_low g gs) = more_low (h & g) (labelled hs gs)

names_low : (names : List (List ℕ)) → AllLow (map name_label names)
names_low [] = none_low
names_low (n ∷ names) = more_low (quoted_low n & word (codes ": ") refl) (names_low names)

ids_low : (ids : List ℕ) → AllLow (map id_label ids)
ids_low [] = none_low
ids_low (id ∷ ids) = more_low (decimal_low id & word (codes " ") refl) (ids_low ids)

-- ---- rows

bit_low : (b : Bool) → Low (bit_text b)
bit_low true = word (codes "true") refl
bit_low false = word (codes "false") refl

bytes_low : (k : TypeKind) (b : List ℕ) → Low (bytes_text k b)
bytes_low (primitive_kind p) b = either (is_int p) (signed_low (number p b)) (hex_text_low b)
bytes_low (decimal_kind p s w) b = hex_text_low b
bytes_low utf8_kind b = quoted_low b
bytes_low binary_kind b = hex_text_low b
bytes_low (extension_kind name k) b = bytes_low k b
bytes_low _ b = no_bytes

mutual
  row_low : (k : TypeKind) (x : RowValue) → Low (row_text_as k x)
  row_low k null = word (codes "null") refl
  row_low k (bit b) = bit_low b
  row_low k (bytes b) = bytes_low k b
  row_low k (list xs) = word (codes "[") refl & commas (items_low (item_kind k) xs) & word (codes "]") refl
  row_low k (fields xs) =
      word (codes "{") refl & commas (labelled (names_low (field_names k)) (fields_low (field_types k) xs))
      & word (codes "}") refl
  row_low k (tagged id x) = decimal_low id & word (codes ":") refl & row_low (variant_kind k id) x

  items_low : (k : TypeKind) (xs : RowValues) → AllLow (item_texts k xs)
  items_low k none = none_low
  items_low k (more x xs) = more_low (row_low k x) (items_low k xs)

  fields_low : (ts : TypeTrees) (xs : RowValues) → AllLow (field_texts ts xs)
  fields_low ts none = none_low
  fields_low no_types (more x xs) = none_low
  fields_low (more_types k n ts) (more x xs) = more_low (row_low k x) (fields_low ts xs)

-- the text of a row, where there is one
pub row_utf8 : (t : TypeTree) (row : Option RowValue) (bs : List ℕ) → option_map (row_text t) row ≡ Some bs → IsUtf8 bs
row_utf8 t None bs e = cc
row_utf8 t (Some x) bs e =
    let same : row_text t x ≡ bs = cc in
    subst (λ (l : List ℕ). IsUtf8 l) same (IsUtf8-from_ascii (row_text t x) (row_low t.kind x).ascii)

-- ---- types

ptype_low : (p : PType) → Low (ptype_text p)
ptype_low U8 = word (codes "u8") refl
ptype_low U16 = word (codes "u16") refl
ptype_low U32 = word (codes "u32") refl
ptype_low U64 = word (codes "u64") refl
ptype_low I8 = word (codes "i8") refl
ptype_low I16 = word (codes "i16") refl
ptype_low I32 = word (codes "i32") refl
ptype_low I64 = word (codes "i64") refl
ptype_low F16 = word (codes "f16") refl
ptype_low F32 = word (codes "f32") refl
ptype_low F64 = word (codes "f64") refl

decimal_text_low : (p : ℕ) (s : ℤ) (w : ℕ) → Low (decimal_text p s w)
decimal_text_low p s w =
    word (codes "decimal(") refl & decimal_low p & word (codes ",") refl & signed_low s & word (codes ",") refl
    & decimal_low w & word (codes ")") refl

mark_low : (n : Nullability) → Low (mark n)
mark_low n = either (is_nullable n) (word (codes "?") refl) no_bytes

mark_of_low : (k : TypeKind) (n : Nullability) → Low (mark_of k n)
mark_of_low null_kind n = no_bytes
mark_of_low _ n = mark_low n

mutual
  kind_low : (k : TypeKind) → Low (kind_text k)
  kind_low null_kind = word (codes "null") refl
  kind_low bool_kind = word (codes "bool") refl
  kind_low (primitive_kind p) = ptype_low p
  kind_low (decimal_kind p s w) = decimal_text_low p s w
  kind_low utf8_kind = word (codes "utf8") refl
  kind_low binary_kind = word (codes "binary") refl
  kind_low (list_kind k n) = word (codes "list(") refl & (kind_low k & mark_of_low k n) & word (codes ")") refl
  kind_low (fixed_kind k n size) =
      word (codes "fixed(") refl & (kind_low k & mark_of_low k n) & (word (codes ", ") refl & decimal_low size)
      & word (codes ")") refl
  kind_low (map_kind names ts) = word (codes "map(") refl & commas (types_low ts) & word (codes ")") refl
  kind_low (struct_kind names ts) =
      word (codes "struct{") refl & commas (labelled (names_low names) (types_low ts)) & word (codes "}") refl
  kind_low (union_kind ids names ts) =
      word (codes "union{") refl & commas (labelled (ids_low ids) (labelled (names_low names) (types_low ts)))
      & word (codes "}") refl
  kind_low (extension_kind name k) =
      word (codes "ext(") refl & quoted_low name & word (codes ", ") refl & kind_low k & word (codes ")") refl

  types_low : (ts : TypeTrees) → AllLow (type_texts ts)
  types_low no_types = none_low
  types_low (more_types k n ts) = more_low (kind_low k & mark_of_low k n) (types_low ts)

-- ---- columns

lines_low : (t : TypeTree) (rows : List RowValue) → Low (lines (row_text t) rows)
lines_low t [] = no_bytes
lines_low t (x ∷ rows) = row_low t.kind x & word (10 ∷ []) refl & lines_low t rows

pub column_utf8 : (t : TypeTree) (rows : List RowValue) → IsUtf8 (text t rows)
column_utf8 t rows =
    IsUtf8-from_ascii (text t rows)
    (kind_low t.kind & mark_of_low t.kind t.nullability & word (10 ∷ []) refl & lines_low t rows).ascii
