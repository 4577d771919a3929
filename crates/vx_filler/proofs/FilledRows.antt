-- One row that stands where none is shown, and the same row many times.
use Rattle.std.proofs.Common.{◌≡◌, ℕ, zero, suc, ◌+◌, ◌-◌, ◌*◌, ◌<◌, true, false, List, [], ◌∷◌, ◌++◌, map, length, get_or, take, slice_range, None, Some, refl, sym, ap, ap₂, ◌∙◌, arith}
use Rattle.std.specs.Prelude.{◌==◌, not, pos, replicate, Option, Result, Ok, if◌then◌else◌}
use Rattle.vx_bits.specs.Results.{ok_unless}
use Rattle.std.specs.Int.{w8, from_le_bytes}
use Rattle.std.specs.List.{list_all}
use Rattle.std.specs.Cmp.{first_so, second_so}
use Rattle.std.proofs.lemmas.Bool.Decides.{nat_tests}
use Rattle.std.proofs.lemmas.List.{length-replicate, map_more, take-replicate}
use Rattle.vx_types.proofs.Carried.{carried-storage, carried_get, dtypes_all, shallow_get, storage-nullability}
use Rattle.vx_types.specs.DType.{type_of}
use Rattle.vx_types.specs.FieldTypes.{FieldTypes, VariantTypes}
use Rattle.vx_types.specs.Nullability.{is_nullable}
use Rattle.vx_types.specs.RowValue.{RowValue, null, bytes, list, fields, tagged, none}
use Rattle.vx_types.specs.Same.{are_same_types}
use Rattle.vx_types.specs.Scalar.{scalar_fault}
use Rattle.vx_types.specs.Variants.{variants_fault}
use Rattle.vx_types.specs.declared.error.ColumnError.{ColumnError}
use Rattle.vx_types.specs.SameLaws.{kind_decides}
use Rattle.vx_types.specs.TypeTree.{TypeKind, TypeTree, also_nullable, are_carried, are_entries, fixed_type, is_carried, list_type, map_type, primitive_kind, primitive_type, struct_kind, struct_type, types_of, union_type, is_entry_kind, is_entry_type}
use Rattle.vx_types.specs.declared.dtype.DType.{DType}
use Rattle.vx_types.specs.declared.nullability.Nullability.{Nullability}
use Rattle.vx_types.specs.declared.nullability.Nullability.TheVariants.{NonNullable, Nullable}
use Rattle.vx_types.specs.declared.ptype.PType.TheVariants.{U8}
use Rattle.vx_take.specs.Picks.{at}
use Rattle.vx_positions.specs.Positions.{first_bad, positions_of}
use Rattle.vx_model.specs.Column.{Column}
use Rattle.vx_model.specs.Columns.{are_long, rows_across, types_in, with_fronts}
use Rattle.vx_model.specs.Dict.{DictParts, dict_column, dict_fault}
use Rattle.vx_model.specs.Filler.{filler_row, filler_value}
use Rattle.vx_model.specs.FixedSizeList.{FixedParts, fixed_column, fixed_fault}
use Rattle.vx_model.specs.List.{ListParts, list_column, list_fault}
use Rattle.vx_model.specs.ListView.{listview_fault}
use Rattle.vx_model.specs.Map.{map_column, map_of}
use Rattle.vx_model.specs.Numbers.{number_in, numbers_of}
use Rattle.vx_model.specs.Struct.{StructParts, fields_row, struct_column, struct_fault}
use Rattle.vx_model.specs.Union.{UnionParts, is_known, tagged_rows, union_column, union_fault}
use Rattle.vx_model.specs.Valid.{Valid, is_fitting, shown_rows, stored_rows}
use Rattle.vx_model.proofs.ConstantRows.{all_shown}
use Rattle.vx_model.proofs.Nullabilities.{also_nullable-none}
use Rattle.vx_model.proofs.StructSteps.{fault-made}
use Rattle.vx_column.proofs.VariantCounts.{first-variant, many-variants}
use Rattle.vx_column.specs.StructParts.{struct_parts}
use Rattle.vx_column.specs.Validity.{valid_of}
use Rattle.vx_column.specs.declared.validity.Validity.{Validity}
use Rattle.vx_filler.specs.Fillers.{empty_views, id_row, valid_by, zero_numbers}
use Rattle.vx_lemmas.proofs.Lists.{map-replicate}
use Rattle.vx_model.proofs.Fillers.{values-fields}
use Rattle.vx_types.proofs.Alike.{same-kind}

-- ---- a list of no elements

abbrev empty_parts : Column → Valid → ListParts
empty_parts elements v = record { elements = elements; offsets = zero_numbers 2; valid = v }

pub sound-empty : (c : Column) (v : Valid) (n : Nullability) → c.rows ≡ [] → v ≡ valid_by n → list_fault (empty_parts c v) ≡ None
sound-empty c v NonNullable h e = rw (e, h) refl
sound-empty c v Nullable h e = rw (e, h) refl

pub dtype-empty : (c : Column) (v : Valid) (n : Nullability) → v ≡ valid_by n → (list_column (empty_parts c v)).dtype ≡ list_type c.dtype n
dtype-empty c v NonNullable e = rw e refl
dtype-empty c v Nullable e = rw e refl

pub rows-empty : (c : Column) (v : Valid) (n : Nullability) → v ≡ valid_by n → (list_column (empty_parts c v)).rows ≡ filler_row (list_type c.dtype n) ∷ []
rows-empty c v NonNullable e = rw e refl
rows-empty c v Nullable e = rw e refl

pub ruleset empty_list = (sound-empty, dtype-empty, rows-empty)

-- ---- a list of so many elements

abbrev one_parts : Column → ℕ → Valid → FixedParts
one_parts elements size v = record { elements = elements; size = size; len = 1; valid = v }

fits_by : (n : Nullability) → is_fitting (valid_by n) 1 ≡ true
fits_by NonNullable = refl
fits_by Nullable = refl

pub sound-one : (c : Column) (size : ℕ) (x : RowValue) (v : Valid) (n : Nullability) → c.rows ≡ replicate size x → v ≡ valid_by n → fixed_fault (one_parts c size v) ≡ None
sound-one c size x v n h e =
    let long : length c.rows ≡ size * 1 = omega (arith, ap length h, length-replicate size x) in
    let fits : is_fitting v 1 ≡ true = ap (λ w. is_fitting w 1) e ∙ fits_by n in
    grind (arith, nat_tests)

pub dtype-one : (c : Column) (size : ℕ) (v : Valid) (n : Nullability) → v ≡ valid_by n → (fixed_column (one_parts c size v)).dtype ≡ fixed_type c.dtype size n
dtype-one c size v NonNullable e = rw e refl
dtype-one c size v Nullable e = rw e refl

whole : (size : ℕ) (x : RowValue) → slice_range (replicate size x) 0 (0 + size) ≡ replicate size x
whole size x =
    let same : 0 + size - 0 ≡ size = omega arith in
    ap (λ k. take k (replicate size x)) same ∙ take-replicate size size x (omega arith)

pub rows-one : (c : Column) (size : ℕ) (v : Valid) (n : Nullability) → c.rows ≡ replicate size (filler_row c.dtype) → v ≡ valid_by n → (fixed_column (one_parts c size v)).rows ≡ filler_row (fixed_type c.dtype size n) ∷ []
rows-one c size v NonNullable h e = rw (e, h, whole size (filler_row c.dtype)) refl
rows-one c size v Nullable h e = rw e refl

pub ruleset one_list = (sound-one, dtype-one, rows-one)

-- ---- a row many times

numbers-zeros : (codes : Column) (len : ℕ) → codes.dtype ≡ primitive_type U8 NonNullable → codes.rows ≡ replicate len (bytes (0 ∷ [])) → numbers_of codes ≡ replicate len (Some (pos 0))
numbers-zeros codes len t h = rw (t, h) (by len)
  where
    by : (len : ℕ) → map (number_in (primitive_kind U8)) (replicate len (bytes (0 ∷ []))) ≡ replicate len (Some (pos 0))
    by zero = refl
    by (suc len) = ap (λ l. Some (pos 0) ∷ l) (by len)

none_bad : (len : ℕ) → first_bad 1 (replicate len (Some (pos 0))) ≡ None
none_bad zero = refl
none_bad (suc len) = none_bad len

at-zeros : (len : ℕ) (rows : List RowValue) → at null rows (positions_of (replicate len (Some (pos 0)))) ≡ replicate len (get_or rows 0 null)
at-zeros zero rows = refl
at-zeros (suc len) rows = ap (λ l. get_or rows 0 null ∷ l) (at-zeros len rows)

module _ (p : DictParts) (len : ℕ) (t : p.codes.dtype ≡ primitive_type U8 NonNullable) (h : p.codes.rows ≡ replicate len (bytes (0 ∷ []))) where
  pub sound-codes : length p.values.rows ≡ 1 → dict_fault p ≡ None
  sound-codes one =
      let none : first_bad (length p.values.rows) (numbers_of p.codes) ≡ None =
      ap (λ n. first_bad n (numbers_of p.codes)) one
      ∙ ap (first_bad 1) (numbers-zeros p.codes len t h) ∙ none_bad len in
      rw (none, t) refl

  pub dtype-codes : (dict_column p).dtype ≡ p.values.dtype
  dtype-codes = ap (λ (u : TypeTree). also_nullable p.values.dtype u.nullability) t ∙ also_nullable-none p.values.dtype

  pub rows-codes : (dict_column p).rows ≡ replicate len (get_or p.values.rows 0 null)
  rows-codes = ap (λ xs. at null p.values.rows (positions_of xs)) (numbers-zeros p.codes len t h) ∙ at-zeros len p.values.rows

pub ruleset one_code = (sound-codes, dtype-codes, rows-codes)

-- ---- a map of no entries

pub sound-views : (c : Column) (v : Valid) (n : Nullability) → c.rows ≡ [] → v ≡ valid_by n → listview_fault (record (empty_views c n) { valid = v }) ≡ None
sound-views c v NonNullable h e = rw (e, h) refl
sound-views c v Nullable h e = rw (e, h) refl

pub dtype-maps : (c : Column) (n : Nullability) → (map_column (empty_views c n)).dtype ≡ record { kind = map_of c.dtype.kind; nullability = n }
dtype-maps c NonNullable = refl
dtype-maps c Nullable = refl

value-map : (k : TypeKind) → is_entry_kind k ≡ true → filler_value (map_of k) ≡ list none
value-map (struct_kind names ts) h = refl
value-map k h = cc

pub rows-maps : (c : Column) (n : Nullability) → c.rows ≡ [] → is_entry_type c.dtype ≡ true → (map_column (empty_views c n)).rows ≡ filler_row (record { kind = map_of c.dtype.kind; nullability = n }) ∷ []
rows-maps c NonNullable h e =
    let kind = first_so (is_entry_kind c.dtype.kind) (not (is_nullable c.dtype.nullability)) e in
    rw (value-map c.dtype.kind kind) refl
rows-maps c Nullable h e = refl

pub ruleset no_entries = (sound-views, dtype-maps, rows-maps)

-- ---- structs

fits_all : (n : Nullability) (len : ℕ) → is_fitting (valid_by n) len ≡ true
fits_all NonNullable len = refl
fits_all Nullable len = refl

stored_by : (n : Nullability) (len : ℕ) (x : RowValue) → stored_rows (valid_by n) (replicate len x) ≡ replicate len (if is_nullable n then null else x)
stored_by NonNullable len x = ap (λ k. shown_rows (replicate k true) (replicate len x)) (length-replicate len x) ∙ all_shown len x
stored_by Nullable len x = ap (λ k. shown_rows (replicate k false) (replicate len x)) (length-replicate len x) ∙ hidden len
  where
    hidden : (len : ℕ) → shown_rows (replicate len false) (replicate len x) ≡ replicate len null
    hidden zero = refl
    hidden (suc len) = ap (λ l. null ∷ l) (hidden len)

abbrev parts_by : List Column → FieldTypes → ℕ → Valid → StructParts
parts_by columns types len v = record { columns = columns; types = types; len = len; valid = v }

pub sound-structs : (cs : List Column) (t : FieldTypes) (len : ℕ) (v : Valid) (n : Nullability) → v ≡ valid_by n → types_in cs ≡ t.types → are_long len cs ≡ true → struct_fault (parts_by cs t len v) ≡ None
sound-structs cs t len v n e same long =
    fault-made (parts_by cs t len v) same long (ap (λ w. is_fitting w len) e ∙ fits_all n len)

pub dtype-structs : (cs : List Column) (t : FieldTypes) (len : ℕ) (v : Valid) (n : Nullability) → v ≡ valid_by n → (struct_column (parts_by cs t len v)).dtype ≡ struct_type t.names t.types n
dtype-structs cs t len v NonNullable e = rw e refl
dtype-structs cs t len v Nullable e = rw e refl

pub rows-structs : (cs : List Column) (t : FieldTypes) (len : ℕ) (v : Valid) (n : Nullability) → v ≡ valid_by n → rows_across cs len ≡ replicate len (map filler_row t.types) → (struct_column (parts_by cs t len v)).rows ≡ replicate len (filler_row (struct_type t.names t.types n))
rows-structs cs t len v n e rows =
    ap (λ w. stored_rows w (map fields_row (rows_across cs len))) e
    ∙ ap (λ r. stored_rows (valid_by n) (map fields_row r)) rows
    ∙ ap (stored_rows (valid_by n)) (map-replicate fields_row len (map filler_row t.types))
    ∙ stored_by n len (fields_row (map filler_row t.types))
    ∙ ap (λ l. replicate len (if is_nullable n then null else fields l)) (sym (values-fields t.types))

-- they are taken, with fields that are shared
pub made-structs : {r : Result StructParts ColumnError} (cs : List Column) (f t : FieldTypes) (len : ℕ) (v : Validity) (n : Nullability) → valid_of v ≡ valid_by n → types_in cs ≡ f.types → are_long len cs ≡ true → t ≡ f → r ≡ ok_unless (struct_fault (struct_parts cs t len v)) (struct_parts cs t len v) → r ≡ Ok (struct_parts cs f len v)
made-structs cs f t len v n e same long shared told =
    told
    ∙ ap (λ (x : FieldTypes). let q : StructParts = struct_parts cs x len v in ok_unless (struct_fault q) q) shared
    ∙ ap (λ fault. ok_unless fault (struct_parts cs f len v)) (sound-structs cs f len (valid_of v) n e same long)

pub ruleset structs = (sound-structs, dtype-structs, rows-structs)

-- ---- unions

-- the id is a number of its type
pub scalar-id : (ids : List ℕ) (n : Nullability) → 0 < length ids → scalar_fault (primitive_type U8 n) (id_row ids n) ≡ None
scalar-id [] n h = absurd (omega arith)
scalar-id (i ∷ ids) NonNullable h = refl
scalar-id (i ∷ ids) Nullable h = refl

abbrev id_tags : List ℕ → Nullability → List (Option ℕ)
id_tags ids n = positions_of (map (number_in (primitive_kind U8)) (id_row ids n ∷ []))

same-id : (i : ℕ) → (i == from_le_bytes w8 (i ∷ [])) ≡ true
same-id i =
    let e : from_le_bytes w8 (i ∷ []) ≡ i = omega arith in
    grind (arith, nat_tests)

known-first : (ids : List ℕ) (n : Nullability) → 0 < length ids → list_all (is_known ids) (id_tags ids n) ≡ true
known-first [] n h = absurd (omega arith)
known-first (i ∷ ids) Nullable h = refl
known-first (i ∷ ids) NonNullable h = rw (same-id i) refl

row-first : (ids : List ℕ) (names : List (List ℕ)) (ts : List TypeTree) (n : Nullability) → 0 < length ids → length ids ≡ length ts → tagged_rows ids (id_tags ids n) (map filler_row ts ∷ []) ≡ filler_row (union_type ids names ts n) ∷ []
row-first [] names ts n h l = absurd (omega arith)
row-first (i ∷ ids) names [] n h l = absurd (omega arith)
row-first (i ∷ ids) names (t ∷ ts) Nullable h l = refl
row-first (i ∷ ids) names (t ∷ ts) NonNullable h l =
    let e : from_le_bytes w8 (i ∷ []) ≡ i = omega arith in
    rw (same-id i) (ap (λ k. tagged k (filler_row t) ∷ []) e)

abbrev union_by : Column → VariantTypes → List Column → UnionParts
union_by c v cs = record { ids = c; offsets = None; variants = v; columns = cs }

pub sound-union : (c : Column) (v : VariantTypes) (cs : List Column) (n : Nullability) → variants_fault v ≡ None → c.dtype ≡ primitive_type U8 n → c.rows ≡ id_row v.ids n ∷ [] → types_in cs ≡ v.types → are_long 1 cs ≡ true → union_fault (union_by c v cs) ≡ None
sound-union c v cs n h dtype rows types long =
    let alike : are_same_types (types_in cs) v.types ≡ true =
    ap (λ ts. are_same_types ts v.types) types ∙ (kind_decides (struct_kind [] (types_of v.types)) (struct_kind [] (types_of v.types))).1 refl in
    rw (dtype, rows, alike, long, known-first v.ids n (first-variant v h)) refl

pub dtype-union : (c : Column) (v : VariantTypes) (cs : List Column) (n : Nullability) → c.dtype ≡ primitive_type U8 n → (union_column (union_by c v cs)).dtype ≡ union_type v.ids v.names v.types n
dtype-union c v cs n dtype = rw dtype refl

pub row-union-first : (c : Column) (v : VariantTypes) (cs : List Column) (n : Nullability) → variants_fault v ≡ None → c.dtype ≡ primitive_type U8 n → c.rows ≡ id_row v.ids n ∷ [] → rows_across cs 1 ≡ map filler_row v.types ∷ [] → (union_column (union_by c v cs)).rows ≡ filler_row (union_type v.ids v.names v.types n) ∷ []
row-union-first c v cs n h dtype rows across =
    rw (dtype, rows, across) (row-first v.ids v.names v.types n (first-variant v h) (many-variants v h))

pub ruleset unions = (first-variant, scalar-id, sound-union, dtype-union, row-union-first)

-- ---- extensions

pub ruleset extensions = (same-kind)

-- ---- columns of each type

-- so many fillers of each type
pub AreFillers : ℕ → List TypeTree → List Column → Type 0
AreFillers n [] [] = Unit {0}
AreFillers n (t ∷ ts) (x ∷ xs) = ((x.dtype ≡ t) × (x.rows ≡ replicate n (filler_row t))) × AreFillers n ts xs
AreFillers n ts xs = ⊥

fillers_append : (n : ℕ) (ts : List TypeTree) (xs : List Column) (t : TypeTree) (x : Column) → AreFillers n ts xs → x.dtype ≡ t → x.rows ≡ replicate n (filler_row t) → AreFillers n (ts ++ t ∷ []) (xs ++ x ∷ [])
unfolding AreFillers
fillers_append n [] [] t x h dtype rows = ((dtype, rows), tt)
fillers_append n [] (y ∷ xs) t x h dtype rows = absurd h
fillers_append n (u ∷ ts) [] t x h dtype rows = absurd h
fillers_append n (u ∷ ts) (y ∷ xs) t x h dtype rows = (h.0, fillers_append n ts xs t x h.1 dtype rows)

pub fillers_none : (n : ℕ) → AreFillers n [] []
unfolding AreFillers
fillers_none n = tt

pub fillers_more : (n : ℕ) (ds : List DType) (k : ℕ) (d : DType) (xs : List Column) (x : Column) → k < length ds → AreFillers n (map type_of (take k ds)) xs → x.dtype ≡ type_of (get_or ds k d) → x.rows ≡ replicate n (filler_row (type_of (get_or ds k d))) → AreFillers n (map type_of (take (k + 1) ds)) (xs ++ x ∷ [])
fillers_more n ds k d xs x l h dtype rows =
    rw (map_more type_of ds k d l) (fillers_append n (map type_of (take k ds)) xs (type_of (get_or ds k d)) x h dtype rows)

pub fillers_types : (n : ℕ) (ts : List TypeTree) (xs : List Column) → AreFillers n ts xs → types_in xs ≡ ts
unfolding AreFillers
fillers_types n [] [] h = refl
fillers_types n [] (x ∷ xs) h = absurd h
fillers_types n (t ∷ ts) [] h = absurd h
fillers_types n (t ∷ ts) (x ∷ xs) h = ap₂ (λ (u : TypeTree) us. u ∷ us) h.0.0 (fillers_types n ts xs h.1)

pub fillers_long : (n : ℕ) (ts : List TypeTree) (xs : List Column) → AreFillers n ts xs → are_long n xs ≡ true
unfolding AreFillers
fillers_long n [] [] h = refl
fillers_long n [] (x ∷ xs) h = absurd h
fillers_long n (t ∷ ts) [] h = absurd h
fillers_long n (t ∷ ts) (x ∷ xs) h =
    let long : length x.rows ≡ n = ap length h.0.1 ∙ length-replicate n (filler_row t) in
    let same : (length x.rows == n) ≡ true = grind (arith, nat_tests) in
    rw (same, fillers_long n ts xs h.1) refl

fronts-replicate : {X : Type 0} (n : ℕ) (x : X) (l : List X) → with_fronts (replicate n x) (replicate n l) ≡ replicate n (x ∷ l)
fronts-replicate zero x l = refl
fronts-replicate (suc n) x l = ap (λ r. (x ∷ l) ∷ r) (fronts-replicate n x l)

pub fillers_across : (n : ℕ) (ts : List TypeTree) (xs : List Column) → AreFillers n ts xs → rows_across xs n ≡ replicate n (map filler_row ts)
unfolding AreFillers
fillers_across n [] [] h = refl
fillers_across n [] (x ∷ xs) h = absurd h
fillers_across n (t ∷ ts) [] h = absurd h
fillers_across n (t ∷ ts) (x ∷ xs) h =
    ap₂ with_fronts h.0.1 (fillers_across n ts xs h.1) ∙ fronts-replicate n (filler_row t) (map filler_row ts)

pub ruleset each_filler = (fillers_none, fillers_more, fillers_types, fillers_long, fillers_across, dtypes_all, carried_get, shallow_get)

-- ---- types inside a type that a column may have

pub carried-entries : (names : List (List ℕ)) (ts : List TypeTree) (n : Nullability) → is_carried (map_type names ts n) ≡ true → are_carried (types_of ts) ≡ true
carried-entries names ts n h = second_so (are_entries (types_of ts)) (are_carried (types_of ts)) h

pub type-entries : (names : List (List ℕ)) (ts : List TypeTree) (n : Nullability) → is_carried (map_type names ts n) ≡ true → is_entry_type (struct_type names ts NonNullable) ≡ true
type-entries names ts n h =
    let entries : are_entries (types_of ts) ≡ true = first_so (are_entries (types_of ts)) (are_carried (types_of ts)) h in
    rw entries refl

pub ruleset carried_inside = (carried-storage, storage-nullability, carried-entries, type-entries)
