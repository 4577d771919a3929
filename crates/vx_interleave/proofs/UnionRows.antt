-- Rows of unions by their cells.
use Rattle.std.proofs.Common.{◌≡◌, ℕ, suc, ◌+◌, ◌<◌, Bool, true, false, List, [], ◌∷◌, ◌++◌, length, map, get_or, take, Option, None, Some, refl, sym, ap, subst, ◌∙◌, arith}
use Rattle.std.specs.Prelude.{◌==◌, ◌||◌, if◌then◌else◌}
use Rattle.std.specs.List.{list_any}
use Rattle.std.proofs.lemmas.List.{map_push}
use Rattle.std.proofs.lemmas.Simd.{map-map}
use Rattle.vx_types.specs.FieldTypes.{VariantTypes}
use Rattle.vx_types.specs.Nullability.{is_nullable}
use Rattle.vx_types.specs.RowValue.{RowValue, null}
use Rattle.vx_types.specs.TypeTree.{TypeTree, primitive_type, types_of}
use Rattle.vx_types.specs.Variants.{variants_fault}
use Rattle.vx_types.specs.declared.nullability.Nullability.{Nullability}
use Rattle.vx_types.specs.declared.nullability.Nullability.TheVariants.{NonNullable, Nullable}
use Rattle.vx_types.specs.declared.ptype.PType.TheVariants.{U8}
use Rattle.vx_model.specs.Bool.{bits_column}
use Rattle.vx_model.specs.Filler.{first_filler}
use Rattle.vx_model.specs.Valid.{Valid, by_column}
use Rattle.vx_column.specs.Cell.{row_of, type_by_id, variant_type}
use Rattle.vx_column.specs.declared.cell.Cell.{Cell}
use Rattle.vx_column.specs.declared.cell.Cell.TheVariants as cells
use Rattle.vx_column.specs.declared.cell.TaggedCell.{TaggedCell}
use Rattle.vx_column.proofs.VariantCounts.{first-variant, many-variants}
use Rattle.vx_offsets.proofs.Cuts.{same}
use Rattle.vx_interleave.specs.Lists.{AddsRows, AreShown}
use Rattle.vx_interleave.specs.Rows.{AreCellsOf, IsCellOf, IsValidityOf, is_there, rows_in, shown_as}
use Rattle.vx_interleave.specs.Sources.{IsSourceOf}
use Rattle.vx_interleave.specs.Tags.{id_row, is_tag, row_in, rows_under, tag_in}
use Rattle.vx_interleave.specs.Unions.{union_of, variant_row, variant_rows}
use Rattle.vx_interleave.proofs.CellRows.{map_cells, row_more}
use Rattle.vx_interleave.proofs.ShownRows.{adds_none, adds_one}
use Rattle.vx_interleave.proofs.VariantRows.{AreRowsUnder, IsRowUnder, under-append}
use Rattle.std.proofs.lemmas.Bool.{eqb-true}
use Rattle.vx_lemmas.proofs.Options.{some_same}

-- ---- the first variant's row

known-here : (id : ℕ) (ids : List ℕ) → list_any (λ v. v == id) (id ∷ ids) ≡ true
known-here id ids = rw (same id) refl

first-known : (ids : List ℕ) (ts : List TypeTree) → 0 < length ids → length ids ≡ length ts → IsRowUnder ids (first_filler ids (types_of ts))
first-known [] ts h l = absurd (omega arith)
first-known (id ∷ ids) [] h l = absurd (omega arith)
first-known (id ∷ ids) (t ∷ ts) h l = known-here id ids

pub first-tag : (ids : List ℕ) (ts : List TypeTree) → 0 < length ids → length ids ≡ length ts → Some (get_or ids 0 0) ≡ tag_in (first_filler ids (types_of ts))
first-tag [] ts h l = absurd (omega arith)
first-tag (id ∷ ids) [] h l = absurd (omega arith)
first-tag (id ∷ ids) (t ∷ ts) h l = refl

tag-is : (id : ℕ) (t : Option ℕ) → is_tag id t ≡ true → t ≡ Some id
tag-is id None h = cc
tag-is id (Some v) h = ap Some (eqb-true v id h)

some-type : (a b : TypeTree) → Some a ≡ Some b → a ≡ b
some-type a b h = cc

-- ---- one row

module _ (v : VariantTypes) where
  pub tagged_tag : (n : Nullability) (t : TaggedCell) → Some t.id ≡ tag_in (variant_row v n (row_of (cells.Tagged t)))
  tagged_tag Nullable t = refl
  tagged_tag NonNullable t = refl

  known-by : (ids : List ℕ) (ts : List TypeTree) (id : ℕ) (t : TypeTree) → type_by_id ids (types_of ts) id ≡ Some t → list_any (λ u. u == id) ids ≡ true
  known-by [] ts id t h = cc
  known-by (u ∷ ids) [] id t h = cc
  known-by (u ∷ ids) (s ∷ ts) id t h = by (u == id) h (known-by ids ts id t)
    where
      by : (b : Bool) → (if b then Some s else type_by_id ids (types_of ts) id) ≡ Some t → (type_by_id ids (types_of ts) id ≡ Some t → list_any (λ w. w == id) ids ≡ true) → (b || list_any (λ w. w == id) ids) ≡ true
      by true h f = refl
      by false h f = f h

  row-under : (n : Nullability) (c : Cell) → variants_fault v ≡ None → IsCellOf (union_of v) c → IsRowUnder v.ids (variant_row v n (row_of c))
  row-under Nullable cells.Null sound h = tt
  row-under NonNullable cells.Null sound h = first-known v.ids v.types (first-variant v sound) (many-variants v sound)
  row-under Nullable (cells.Tagged t) sound h = known-by v.ids v.types t.id t.column.now.dtype h.kind
  row-under NonNullable (cells.Tagged t) sound h = known-by v.ids v.types t.id t.column.now.dtype h.kind
  row-under n (cells.Bit b) sound h = cc
  row-under n (cells.Bytes b) sound h = let e = h.kind in cc
  row-under n (cells.List l) sound h = let e = h.kind in cc
  row-under n (cells.Fields f) sound h = let e = h.kind in cc

  pub rows_known : (n : Nullability) (items : List Cell) → variants_fault v ≡ None → AreCellsOf (union_of v) items → AreRowsUnder v.ids (variant_rows v n (rows_in items))
  rows_known n [] sound h = tt
  rows_known n (c ∷ items) sound h =
      (row-under n c sound (h 0 c (omega arith)), rows_known n items sound (λ i d l. h (suc i) d (omega arith)))

  -- ---- the row of its variant

  module _ (n : Nullability) (id : ℕ) (t : TypeTree) (variant : variant_type (union_of v) id ≡ Some t) where
    pub tagged_source : (r : TaggedCell) → IsCellOf (union_of v) (cells.Tagged r) → is_tag id (tag_in (variant_row v n (row_of (cells.Tagged r)))) ≡ true → IsSourceOf t r.column.now
    tagged_source r cell tag =
        let same : r.id ≡ id = some_same r.id id (tagged_tag n r ∙ tag-is id (tag_in (variant_row v n (row_of (cells.Tagged r)))) tag) in
        let typed : t ≡ r.column.now.dtype =
        some-type t r.column.now.dtype (sym variant ∙ ap (λ i. variant_type (union_of v) i) (sym same) ∙ cell.kind) in
        record {
          kind = ap (λ (u : TypeTree). u.kind) (sym typed);
          nulls = λ h. ap (λ (u : TypeTree). is_nullable u.nullability) typed ∙ h;
        }

    first-row : (ids : List ℕ) (ts : List TypeTree) → type_by_id ids (types_of ts) id ≡ Some t → is_tag id (tag_in (first_filler ids (types_of ts))) ≡ true → shown_as t null ≡ row_in (first_filler ids (types_of ts))
    first-row [] ts h tag = cc
    first-row (i ∷ ids) [] h tag = cc
    first-row (i ∷ ids) (u ∷ ts) h tag =
        let same : u ≡ t = some-type u t (ap (λ b. if b then Some u else type_by_id ids (types_of ts) id) (sym tag) ∙ h) in
        ap (λ (s : TypeTree). shown_as s null) (sym same)

    pub null_row : (c : Cell) → IsCellOf (union_of v) c → ((r : TaggedCell) → c ≡ cells.Tagged r → ⊥) → is_tag id (tag_in (variant_row v n (row_of c))) ≡ true → shown_as t null ≡ row_in (variant_row v n (row_of c))
    null_row c cell other tag = by n c cell other tag
      where
        by : (m : Nullability) (d : Cell) → IsCellOf (union_of v) d → ((r : TaggedCell) → d ≡ cells.Tagged r → ⊥) → is_tag id (tag_in (variant_row v m (row_of d))) ≡ true → shown_as t null ≡ row_in (variant_row v m (row_of d))
        by Nullable cells.Null cell other tag = cc
        by NonNullable cells.Null cell other tag = first-row v.ids v.types variant tag
        by m (cells.Tagged r) cell other tag = absurd (other r refl)
        by m (cells.Bit b) cell other tag = cc
        by m (cells.Bytes b) cell other tag = let e = cell.kind in cc
        by m (cells.List l) cell other tag = let e = cell.kind in cc
        by m (cells.Fields f) cell other tag = let e = cell.kind in cc

  pub tagged_row : (n : Nullability) (r : TaggedCell) → get_or r.column.now.rows r.row null ≡ row_in (variant_row v n (row_of (cells.Tagged r)))
  tagged_row Nullable r = refl
  tagged_row NonNullable r = refl

-- ---- one row more of a variant

pub adds_row : (t : TypeTree) (id : ℕ) (x : RowValue) (cell : Cell) (old new : List Cell) → is_tag id (tag_in x) ≡ true → IsCellOf t.kind cell → shown_as t (row_of cell) ≡ row_in x → new ≡ old ++ cell ∷ [] → AddsRows t (rows_under id (x ∷ [])) old new
adds_row t id x cell old new tag kind is e =
    let one : rows_under id (x ∷ []) ≡ row_in x ∷ [] = rw tag refl in
    subst (λ (rows : List RowValue). AddsRows t rows old new) (sym one) (adds_one t cell (row_in x) old new kind is e)

pub adds_other : (t : TypeTree) (id : ℕ) (x : RowValue) (items : List Cell) → is_tag id (tag_in x) ≡ false → AddsRows t (rows_under id (x ∷ [])) items items
adds_other t id x items tag =
    let none : rows_under id (x ∷ []) ≡ [] = rw tag refl in
    subst (λ (rows : List RowValue). AddsRows t rows items items) (sym none) (adds_none t items items refl)

-- the rows of the first cells, and of one more
module _ (v : VariantTypes) (n : Nullability) (items : List Cell) (i : ℕ) (cell : Cell) (inside : i < length items) (at : cell ≡ get_or items i cell) where
  one-more : variant_rows v n (rows_in (take (i + 1) items)) ≡ variant_rows v n (rows_in (take i items)) ++ variant_row v n (row_of cell) ∷ []
  one-more = row_more (variant_row v n) items i cell inside at

  pub tag_more : (tags new : List (Option ℕ)) → tags ≡ map tag_in (variant_rows v n (rows_in (take i items))) → new ≡ tags ++ tag_in (variant_row v n (row_of cell)) ∷ [] → new ≡ map tag_in (variant_rows v n (rows_in (take (i + 1) items)))
  tag_more tags new are is =
      is ∙ ap (λ l. l ++ tag_in (variant_row v n (row_of cell)) ∷ []) are
      ∙ sym (ap (map tag_in) one-more ∙ map_push tag_in (variant_rows v n (rows_in (take i items))) (variant_row v n (row_of cell)))

  pub variant_more : (t : TypeTree) (id : ℕ) (old new : List Cell) → AreShown t (rows_under id (variant_rows v n (rows_in (take i items)))) old → AddsRows t (rows_under id (variant_row v n (row_of cell) ∷ [])) old new → AreShown t (rows_under id (variant_rows v n (rows_in (take (i + 1) items)))) new
  variant_more t id old new shown adds =
      subst (λ (rows : List RowValue). AreShown t rows new)
      (sym (ap (rows_under id) one-more ∙ under-append id (variant_rows v n (rows_in (take i items))) (variant_row v n (row_of cell) ∷ [])))
      (adds (rows_under id (variant_rows v n (rows_in (take i items)))) shown)

-- ---- the ids

module _ (v : VariantTypes) (items : List Cell) (are : AreCellsOf (union_of v) items) where
  -- the row of the column of ids
  abbrev pub id_of : Nullability → RowValue → RowValue
  id_of n x = id_row (tag_in (variant_row v n x))

  ids : (n : Nullability) → map id_row (map tag_in (variant_rows v n (rows_in items))) ≡ map (id_of n) (rows_in items)
  ids n = ap (map id_row) (map-map tag_in (variant_row v n) (rows_in items)) ∙ map-map id_row (λ x. tag_in (variant_row v n x)) (rows_in items)

  there : (c : Cell) → IsCellOf (union_of v) c → is_there (row_of c) ≡ is_there (id_of Nullable (row_of c))
  there cells.Null h = refl
  there (cells.Tagged t) h = refl
  there (cells.Bit b) h = cc
  there (cells.Bytes b) h = let e = h.kind in cc
  there (cells.List l) h = let e = h.kind in cc
  there (cells.Fields f) h = let e = h.kind in cc

  -- they are there where the rows are
  pub ids_valid : (n : Nullability) (w : Valid) → IsValidityOf n (rows_in items) w → IsValidityOf n (map id_row (map tag_in (variant_rows v n (rows_in items)))) w
  ids_valid NonNullable w is = is
  ids_valid Nullable w is =
      is
      ∙ ap (λ bits. by_column (bits_column bits 0))
      (map_cells is_there (λ x. is_there (id_of Nullable x)) (union_of v) items are there
      ∙ sym (ap (map is_there) (ids Nullable) ∙ map-map is_there (id_of Nullable) (rows_in items)))

  first-id : (is : List ℕ) (ts : List TypeTree) → 0 < length is → length is ≡ length ts → shown_as (primitive_type U8 NonNullable) (id_row (tag_in (first_filler is (types_of ts)))) ≡ id_row (tag_in (first_filler is (types_of ts)))
  first-id [] ts h l = absurd (omega arith)
  first-id (i ∷ is) [] h l = absurd (omega arith)
  first-id (i ∷ is) (t ∷ ts) h l = refl

  one-id : (n : Nullability) (c : Cell) → variants_fault v ≡ None → IsCellOf (union_of v) c → shown_as (primitive_type U8 n) (id_of n (row_of c)) ≡ id_of n (row_of c)
  one-id Nullable c sound h = refl
  one-id NonNullable cells.Null sound h = first-id v.ids v.types (first-variant v sound) (many-variants v sound)
  one-id NonNullable (cells.Tagged t) sound h = refl
  one-id NonNullable (cells.Bit b) sound h = cc
  one-id NonNullable (cells.Bytes b) sound h = let e = h.kind in cc
  one-id NonNullable (cells.List l) sound h = let e = h.kind in cc
  one-id NonNullable (cells.Fields f) sound h = let e = h.kind in cc

  -- each row has one where the type has no nulls
  pub ids_shown : (n : Nullability) → variants_fault v ≡ None → map (shown_as (primitive_type U8 n)) (map id_row (map tag_in (variant_rows v n (rows_in items)))) ≡ map id_row (map tag_in (variant_rows v n (rows_in items)))
  ids_shown n sound =
      ap (map (shown_as (primitive_type U8 n))) (ids n)
      ∙ map-map (shown_as (primitive_type U8 n)) (id_of n) (rows_in items)
      ∙ map_cells (λ x. shown_as (primitive_type U8 n) (id_of n x)) (id_of n) (union_of v) items are (λ c h. one-id n c sound h)
      ∙ sym (ids n)
