-- Layout `Union`: a row is one of its variants' rows, which an id tells.
use Rattle.std.specs.Prelude.{◌≡◌, ◌<◌, ℕ, ℤ, pos, ◌+◌, ◌==◌, ◌&&◌, max, Bool, true, List, [], ◌∷◌, length, map, Option, Some, None, IsSome, IsNone, slice_index_or, if◌then◌else◌, refl}
use Rattle.std.specs.Coded.{Coded, code_by, coded×, coded_list, coded_option}
use Rattle.std.specs.List.{items_where_true, list_all, list_any}
use Rattle.std.specs.Option.{option_map}
use Rattle.vx_types.specs.FieldTypes.{VariantTypes, coded_variants}
use Rattle.vx_types.specs.RowValue.{RowValue, null, tagged}
use Rattle.vx_types.specs.Same.{are_same_types}
use Rattle.vx_types.specs.TypeTree.{TypeKind, TypeTree, union_kind, types_of}
use Rattle.vx_types.specs.Variants.{is_id_type}
use Rattle.vx_types.specs.declared.layout_name.LayoutName.TheVariants.{Union as UnionLayout}
use Rattle.vx_types.specs.declared.error.ColumnError.{ColumnError}
use Rattle.vx_types.specs.declared.error.ColumnError.TheVariants.{WrongType, WrongLength, BadOffsets, BadTypeId}
use Rattle.vx_offsets.specs.Offsets.{offset_positions}
use Rattle.vx_positions.specs.Positions.{is_position, positions_of}
use Rattle.vx_model.specs.Column.{Column, bare_column}
use Rattle.vx_model.specs.ColumnCode.{coded_column}
use Rattle.vx_model.specs.Columns.{AreCuts, are_long, columns_depth, rows_across, types_in}
use Rattle.vx_model.specs.Numbers.{integers_of, numbers_of}
use Rattle.vx_model.specs.Records.{RecordParts, coded_records, records_with}
use Rattle.vx_model.specs.Step.{IsCut}
use Rattle.vx_model.specs.Valid.{non_nullable}
use Rattle.vx_model.specs.VarBin.{are_integers}

-- what a contract sees of a `UnionArray`
pub record UnionParts : Type 0 where
  -- for each row the id of its variant
  pub ids : Column
  -- for each row its place in its variant's column, null rows too; none where that is the row's own
  pub offsets : Option RecordParts
  pub variants : VariantTypes
  -- one a variant
  pub columns : List Column

-- ---- rows

-- for each row the id of its variant, and none for a null
abbrev pub tags_of : UnionParts → List (Option ℕ)
tags_of p = positions_of (numbers_of p.ids)

-- for each of these places the row of every column
abbrev pub rows_at : List Column → List ℕ → List (List RowValue)
rows_at cs places =
    map (λ (k : ℕ). map (λ (c : Column). slice_index_or c.rows k null) cs) places

-- for each of n rows the rows that the columns have for it
abbrev pub candidates : Option RecordParts → List Column → ℕ → List (List RowValue)
candidates None cs n = rows_across cs n
candidates (Some offsets) cs n = rows_at cs (offset_positions (integers_of offsets))

-- the one of the variant of this id
abbrev pub row_by_id : List ℕ → List RowValue → ℕ → RowValue
row_by_id [] rows id = null
row_by_id (v ∷ vs) [] id = null
row_by_id (v ∷ vs) (x ∷ rows) id = if v == id then x else row_by_id vs rows id

abbrev pub union_row : List ℕ → Option ℕ → List RowValue → RowValue
union_row ids None rows = null
union_row ids (Some id) rows = tagged id (row_by_id ids rows id)

abbrev pub tagged_rows : List ℕ → List (Option ℕ) → List (List RowValue) → List RowValue
tagged_rows ids [] rows = []
tagged_rows ids (t ∷ tags) [] = []
tagged_rows ids (t ∷ tags) (r ∷ rows) = union_row ids t r ∷ tagged_rows ids tags rows

abbrev pub candidates_of : UnionParts → List (List RowValue)
candidates_of p = candidates p.offsets p.columns (length p.ids.rows)

-- a row is that of its variant, behind its id, or null where the id is
abbrev pub union_rows : UnionParts → List RowValue
union_rows p = tagged_rows p.variants.ids (tags_of p) (candidates_of p)

-- ---- where a row is

-- the place of row i in its variant's column
abbrev pub place_at : Option RecordParts → ℕ → ℕ
place_at None i = i
place_at (Some offsets) i = slice_index_or (offset_positions (integers_of offsets)) i 0

-- its offset, where it has one, is a place of n rows
abbrev pub IsPlace : Option RecordParts → ℕ → ℕ → Type 0
IsPlace None i n = i < n
IsPlace (Some offsets) i n =
    (i < length offsets.records)
    × (is_position n (slice_index_or (integers_of offsets) i (pos 0)) ≡ true)

-- ---- faults

-- a non-nullable column of integers, where there is one
abbrev pub are_places : Option RecordParts → Bool
are_places None = true
are_places (Some offsets) = are_integers offsets

abbrev pub are_union_types : UnionParts → Bool
are_union_types p =
    is_id_type p.ids.dtype
    && (are_places p.offsets && are_same_types (types_in p.columns) p.variants.types)

-- an offset for each of n rows, or each column is as long
abbrev pub is_union_long : Option RecordParts → List Column → ℕ → Bool
is_union_long None cs n = are_long n cs
is_union_long (Some offsets) cs n = length offsets.records == n

-- the column of the variant of this id, where there is one, has this place
abbrev pub has_place : List ℕ → List Column → ℕ → ℤ → Bool
has_place [] cs id z = true
has_place (v ∷ vs) [] id z = true
has_place (v ∷ vs) (c ∷ cs) id z =
    if v == id then is_position (length c.rows) z else has_place vs cs id z

-- the offset at a null isn't looked at
abbrev pub has_row : List ℕ → List Column → Option ℕ → ℤ → Bool
has_row ids cs None z = true
has_row ids cs (Some id) z = has_place ids cs id z

abbrev pub have_rows : List ℕ → List Column → List (Option ℕ) → List ℤ → Bool
have_rows ids cs [] zs = true
have_rows ids cs (t ∷ tags) [] = true
have_rows ids cs (t ∷ tags) (z ∷ zs) = has_row ids cs t z && have_rows ids cs tags zs

abbrev pub are_inside : UnionParts → Option RecordParts → Bool
are_inside p None = true
are_inside p (Some offsets) =
    have_rows p.variants.ids p.columns (tags_of p) (integers_of offsets)

-- a null names no variant
abbrev pub is_known : List ℕ → Option ℕ → Bool
is_known ids None = true
is_known ids (Some id) = list_any (λ v. v == id) ids

abbrev pub are_known : UnionParts → Bool
are_known p = list_all (is_known p.variants.ids) (tags_of p)

-- why they are no column, the first that holds
abbrev pub union_fault : UnionParts → Option ColumnError
union_fault p =
    if are_union_types p then
    (if is_union_long p.offsets p.columns (length p.ids.rows) then
    (if are_inside p p.offsets then
    (if are_known p then None else Some BadTypeId)
    else Some BadOffsets)
    else Some WrongLength)
    else Some WrongType

-- ---- the column

-- nested in a column of ids and the variants' columns
abbrev pub union_size : UnionParts → ℕ
union_size p = max p.ids.depth (columns_depth p.columns) + 2

-- nullable where the ids are
abbrev pub union_dtype : UnionParts → TypeTree
union_dtype p =
    record {
      kind = union_kind p.variants.ids p.variants.names (types_of p.variants.types);
      nullability = p.ids.dtype.nullability;
    }

-- of the offsets, where there are some
abbrev pub offsets_kind : Option RecordParts → Option TypeKind
offsets_kind None = None
offsets_kind (Some offsets) = Some offsets.kind

abbrev pub union_column : UnionParts → Column
union_column p =
    record (bare_column (union_dtype p) (union_rows p) UnionLayout (union_size p + 1)) {
      dense = offsets_kind p.offsets;
    }

-- ---- what a filter leaves

-- the records at the set bits, of the same type
abbrev pub offsets_left : List Bool → RecordParts → RecordParts
offsets_left bits offsets =
    records_with offsets (items_where_true bits offsets.records) non_nullable

-- a has the ids and the offsets of p at the set bits; and its columns where it is dense, else
-- their rows there
pub record IsUnionFilter (p : UnionParts) (bits : List Bool) (a : UnionParts) : Type 0 where
  pub ids : IsCut p.ids (items_where_true bits p.ids.rows) a.ids
  pub offsets : a.offsets ≡ option_map (offsets_left bits) p.offsets
  pub dense : IsSome p.offsets → a.columns ≡ p.columns
  pub sparse : IsNone p.offsets → AreCuts (items_where_true bits) p.columns a.columns

abbrev pub coded_union : Coded UnionParts
coded_union =
    code_by ((Column × Option RecordParts) × (VariantTypes × List Column))
    (coded× (coded× coded_column (coded_option coded_records))
    (coded× coded_variants (coded_list coded_column)))
    (λ p. ((p.ids, p.offsets), (p.variants, p.columns)))
    (λ f. record { ids = f.0.0; offsets = f.0.1; variants = f.1.0; columns = f.1.1 })
    (λ _. refl)
