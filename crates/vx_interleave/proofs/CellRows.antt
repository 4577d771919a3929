-- Rows by their cells.
use Rattle.std.proofs.Common.{◌≡◌, ℕ, zero, suc, ◌+◌, ◌<◌, true, List, [], ◌∷◌, ◌++◌, length, map, get_or, take, subst, Some, refl, sym, ap, ap₂, ◌∙◌, arith}
use Rattle.std.specs.Prelude.{nat_lt, slice_get}
use Rattle.std.specs.Cmp.{first_so, second_so}
use Rattle.std.proofs.lemmas.Bool.Decides.{nat_tests}
use Rattle.std.proofs.lemmas.List.{length-map, map_more, map_push}
use Rattle.std.proofs.lemmas.List.Elements.{All-append, All-cons, All-nil}
use Rattle.std.proofs.lemmas.Simd.{map-map}
use Rattle.vx_types.specs.RowValue.{RowValue, null}
use Rattle.vx_types.specs.TypeTree.{TypeKind, TypeTree, TypeTrees, struct_kind, struct_type, types_of}
use Rattle.vx_types.specs.FieldTypes.{FieldTypes}
use Rattle.vx_types.specs.Nullability.{is_nullable}
use Rattle.vx_types.specs.declared.nullability.Nullability.{Nullability}
use Rattle.vx_types.specs.declared.nullability.Nullability.TheVariants.{Nullable}
use Rattle.vx_model.specs.Column.{Column}
use Rattle.vx_model.specs.Columns.{are_long_past, rows_across, types_in}
use Rattle.vx_model.specs.Valid.{Valid, stored_rows}
use Rattle.vx_model.specs.Struct.{fields_row, struct_of}
use Rattle.vx_column.specs.Cell.{AreFieldsOf, row_of}
use Rattle.vx_column.specs.declared.cell.Cell.{Cell}
use Rattle.vx_column.specs.declared.cell.Cell.TheVariants as cells
use Rattle.vx_interleave.specs.Rows.{AreCellsOf, IsCellOf, IsValidityOf, rows_in, shown_as, stored_as}
use Rattle.vx_interleave.specs.Sources.{IsSourceOf}
use Rattle.vx_interleave.specs.Structs.{AreFields, field_in}
use Rattle.vx_interleave.proofs.Shown.{shown}
use Rattle.vx_interleave.proofs.FieldRows.{fields_across, fields_from, row-null, row-there, values-row_values}
use Rattle.vx_types.proofs.Alike.{types_of-same, length-types_of}

-- what holds of each cell holds of all
pub map_cells : {Y : Type 0} (f g : RowValue → Y) (k : TypeKind) (items : List Cell) → AreCellsOf k items → ((c : Cell) → IsCellOf k c → f (row_of c) ≡ g (row_of c)) → map f (rows_in items) ≡ map g (rows_in items)
map_cells f g k [] h each = refl
map_cells f g k (c ∷ items) h each =
    ap₂ ◌∷◌ (each c (h 0 c (omega arith))) (map_cells f g k items (λ i d l. h (suc i) d (omega arith)) each)

-- one cell more of each of two lists
pub row_more : {Y : Type 0} (f : RowValue → Y) (items : List Cell) (i : ℕ) (cell : Cell) → i < length items → cell ≡ get_or items i cell → map f (rows_in (take (i + 1) items)) ≡ map f (rows_in (take i items)) ++ f (row_of cell) ∷ []
row_more f items i cell h is =
    ap (map f) (map_more row_of items i cell h)
    ∙ map_push f (rows_in (take i items)) (row_of (get_or items i cell))
    ∙ ap (λ (c : Cell). map f (rows_in (take i items)) ++ f (row_of c) ∷ []) (sym is)

pub cell_pushed : {Y : Type 0} (f : RowValue → Y) (old new : List Cell) (cell : Cell) → new ≡ old ++ cell ∷ [] → map f (rows_in new) ≡ map f (rows_in old) ++ f (row_of cell) ∷ []
cell_pushed f old new cell is =
    ap (λ (c : List Cell). map f (rows_in c)) is ∙ ap (map f) (map_push row_of old cell) ∙ map_push f (rows_in old) (row_of cell)

pub kind_pushed : (k : TypeKind) (old new : List Cell) (cell : Cell) → AreCellsOf k old → IsCellOf k cell → new ≡ old ++ cell ∷ [] → AreCellsOf k new
kind_pushed k old new cell all one is =
    subst (λ (c : List Cell). AreCellsOf k c) (sym is) (All-append (IsCellOf k) old (cell ∷ []) all (All-cons (IsCellOf k) cell [] one (All-nil (IsCellOf k))))

-- ---- structs

some-types : (a b : TypeTrees) → Some a ≡ Some b → a ≡ b
some-types a b h = cc

pub struct-cell : (names : List (List ℕ)) (ts : List TypeTree) (c : Cell) → IsCellOf (struct_kind names (types_of ts)) c → fields_row (fields_from 0 ts (row_of c)) ≡ stored_as (struct_kind names (types_of ts)) (row_of c)
struct-cell names ts cells.Null h = row-null names ts
struct-cell names ts (cells.Fields f) h =
    let many : length ts ≡ length f.columns.now = length-types_of ts (types_in f.columns.now) (some-types (types_of ts) (types_of (types_in f.columns.now)) h.kind) ∙ length-map f.columns.now (λ (c : Column). c.dtype) in
    row-there names ts (map (λ (c : Column). get_or c.rows f.row null) f.columns.now) (length-map f.columns.now (λ (c : Column). get_or c.rows f.row null) ∙ sym many)
struct-cell names ts (cells.Bit b) h = cc
struct-cell names ts (cells.Bytes b) h = let k = h.kind in cc
struct-cell names ts (cells.List l) h = let k = h.kind in cc
struct-cell names ts (cells.Tagged v) h = let k = h.kind in cc

-- ---- one field

got-below : {X : Type 0} (xs : List X) (k : ℕ) (x : X) → slice_get xs k ≡ Some x → k < length xs
got-below [] k x h = cc
got-below (y ∷ xs) zero x h = omega arith
got-below (y ∷ xs) (suc k) x h = omega (arith, got-below xs k x h)

got-map : {X Y : Type 0} (f : X → Y) (xs : List X) (k : ℕ) (x : X) (d : Y) → slice_get xs k ≡ Some x → get_or (map f xs) k d ≡ f x
got-map f [] k x d h = cc
got-map f (y ∷ xs) zero x d h = let e : y ≡ x = cc in ap f e
got-map f (y ∷ xs) (suc k) x d h = got-map f xs k x d h

got-type : (cs : List Column) (k : ℕ) (c : Column) → slice_get cs k ≡ Some c → slice_get (types_in cs) k ≡ Some c.dtype
got-type [] k c h = cc
got-type (d ∷ cs) zero c h = let e : d ≡ c = cc in ap (λ (x : Column). Some x.dtype) e
got-type (d ∷ cs) (suc k) c h = got-type cs k c h

got-long : (row : ℕ) (cs : List Column) (k : ℕ) (c : Column) → slice_get cs k ≡ Some c → are_long_past row cs ≡ true → row < length c.rows
got-long row [] k c h long = cc
got-long row (d ∷ cs) zero c h long =
    let e : d ≡ c = cc in
    let here : nat_lt row (length d.rows) ≡ true = first_so (nat_lt row (length d.rows)) (are_long_past row cs) long in
    let below : row < length d.rows = grind (arith, nat_tests) in
    omega (arith, below, ap (λ (x : Column). length x.rows) e)
got-long row (d ∷ cs) (suc k) c h long = got-long row cs k c h (second_so (nat_lt row (length d.rows)) (are_long_past row cs) long)

some-type : (a b : TypeTree) → Some a ≡ Some b → a ≡ b
some-type a b h = cc

-- the columns of a cell of structs are of these types
module _ (f : FieldTypes) (cs : List Column) (row k : ℕ) (t : TypeTree) (cell : AreFieldsOf (record { kind = struct_of f; nullability = Nullable }) cs row) (field : slice_get f.types k ≡ Some t) where
  types : f.types ≡ types_in cs
  types = types_of-same f.types (types_in cs) (some-types (types_of f.types) (types_of (types_in cs)) cell.kind)

  pub field_below : k < length cs
  field_below = omega (arith, got-below f.types k t field, ap length types, length-map cs (λ (c : Column). c.dtype))

  module _ (c : Column) (got : slice_get cs k ≡ Some c) where
    typed : t ≡ c.dtype
    typed = some-type t c.dtype (sym field ∙ ap (λ (ts : List TypeTree). slice_get ts k) types ∙ got-type cs k c got)

    pub field_source : IsSourceOf t c
    field_source = record {
      kind = ap (λ (u : TypeTree). u.kind) (sym typed);
      nulls = λ h. ap (λ (u : TypeTree). is_nullable u.nullability) typed ∙ h;
    }

    pub field_within : row < length c.rows
    field_within = got-long row cs k c got cell.within

    pub field_row : get_or c.rows row null ≡ field_in t k (fields_row (map (λ (x : Column). get_or x.rows row null) cs))
    field_row =
        sym (got-map (λ (x : Column). get_or x.rows row null) cs k c null got)
        ∙ ap (λ l. get_or l k null) (sym (values-row_values (map (λ (x : Column). get_or x.rows row null) cs)))

-- ---- structs whose fields are gathered

pub structs_shown : (f : FieldTypes) (n : Nullability) (items : List Cell) (cs : List Column) (v : Valid) → AreCellsOf (struct_of f) items → IsValidityOf n (rows_in items) v → AreFields 0 f.types (rows_in items) cs → stored_rows v (map fields_row (rows_across cs (length items))) ≡ map (shown_as (struct_type f.names f.types n)) (rows_in items)
structs_shown f n items cs v cells valid all =
    shown n (struct_of f) (rows_in items) (map fields_row (rows_across cs (length items))) v valid
    (ap (λ m. map fields_row (rows_across cs m)) (sym (length-map items row_of))
    ∙ ap (map fields_row) (fields_across 0 f.types (rows_in items) cs all)
    ∙ map-map fields_row (fields_from 0 f.types) (rows_in items)
    ∙ map_cells (λ x. fields_row (fields_from 0 f.types x)) (stored_as (struct_of f)) (struct_of f) items cells (struct-cell f.names f.types))
