-- Picks of a column's rows, of its children's, and what the rows at them need.
use Rattle.std.specs.Prelude.{ℕ, ◌+◌, ◌-◌, ◌*◌, ◌/◌, ◌%◌, ◌^◌, Bool, true, false, ◌&&◌, ◌||◌, List, [], ◌∷◌, ◌++◌, map, length, replicate, slice_index, slice_index_or, nat_lt, ◌==◌, if◌then◌else◌, Option, Some, None}
use Rattle.std.specs.List.{range_with_len, flat_map, sum_by}
use Rattle.std.specs.Option.{option_map}
use Rattle.vx_arrow_image.specs.declared.format.Format.{Format}
use Rattle.vx_arrow_image.specs.declared.format.Format.TheVariants.{Nulls, Bits, Fixed, Text, Struct, List as Lists, FixedList, TextView, ListView, Union, DenseUnion}
use Rattle.vx_arrow_image.specs.declared.format.Offsets.{Offsets}
use Rattle.vx_arrow_image.specs.declared.image.Need as image
use Rattle.vx_arrow_image.specs.Image.{Part, child_of, dense_start, ids_of, is_valid, offset_at, size_of, limit_of}

-- picks, and whether bits say which of them are null; or all rows as they stand, which are kept
pub record Picking : Type 0 where
  pub picks : List (Option ℕ)
  pub nullable : Bool
  pub kept : Bool

abbrev pub has_bits : List ℕ → Bool
has_bits [] = false
has_bits (b ∷ bs) = true

-- pick k of places in the caller's memory, each `add` further on
abbrev pub pick_at : List ℕ → List ℕ → ℕ → ℕ → Option ℕ
pick_at places valid add k =
    if is_valid valid k then Some (add + slice_index places k) else None

unfoldable pub picks_of : List ℕ → List ℕ → ℕ → List (Option ℕ)
picks_of places valid add = map (pick_at places valid add) (range_with_len 0 (length places))

-- the picks that places and bits of the caller's say
abbrev pub picking_of : List ℕ → List ℕ → ℕ → Picking
picking_of places valid add =
    record { picks = picks_of places valid add; nullable = has_bits valid; kept = false }

-- the rows of a node that is kept, with all below it
abbrev pub all_rows : Picking
all_rows = record { picks = []; nullable = false; kept = true }

-- ---- the picks of the children

-- where the row of a pick stands, if pick and row are there
abbrev pub place_of : Part → Option ℕ → Option ℕ
place_of p None = None
place_of p (Some i) = if is_valid p.valid (p.offset + i) then Some (p.offset + i) else None

-- how many items the row at a place has
abbrev pub row_len : Offsets → Part → Option ℕ → ℕ
row_len z p None = 0
row_len z p (Some i) = offset_at z p.offsets (i + 1) - offset_at z p.offsets i

-- how many items the rows at picks have together
unfoldable pub items_len : Offsets → Part → List (Option ℕ) → ℕ
items_len z p q = sum_by (λ o. row_len z p (place_of p o)) q

-- the places of the items of a row
abbrev pub row_items : Offsets → Part → Option ℕ → List ℕ
row_items z p None = []
row_items z p (Some i) =
    range_with_len (offset_at z p.offsets i)
    (offset_at z p.offsets (i + 1) - offset_at z p.offsets i)

-- and of the rows at picks
unfoldable pub items_of : Offsets → Part → List (Option ℕ) → List ℕ
items_of z p q = flat_map (λ o. row_items z p (place_of p o)) q

-- item m of the lists of a fixed size at picks: null where the pick is
abbrev pub fixed_item : Part → List (Option ℕ) → ℕ → Option ℕ
fixed_item p q m =
    option_map (λ i. (p.offset + i) * p.width + m % p.width)
    (slice_index_or q (m / p.width) None)

unfoldable pub fixed_items : Part → List (Option ℕ) → List (Option ℕ)
fixed_items p q = map (fixed_item p q) (range_with_len 0 (length q * p.width))

-- the picks of each child, from those of its parent
abbrev pub inner_picks : Option Format → Part → List (Option ℕ) → List (Option ℕ)
inner_picks None p q = []
inner_picks (Some Nulls) p q = []
inner_picks (Some Bits) p q = []
inner_picks (Some Fixed) p q = []
inner_picks (Some (Text z)) p q = []
inner_picks (Some Struct) p q = map (option_map (λ i. p.offset + i)) q
inner_picks (Some (Lists z)) p q = map Some (items_of z p q)
inner_picks (Some FixedList) p q = fixed_items p q
inner_picks (Some TextView) p q = []
inner_picks (Some (ListView z)) p q = []
inner_picks (Some Union) p q = map (option_map (λ i. p.offset + i)) q
inner_picks (Some DenseUnion) p q = []

abbrev pub inner_nullable : Option Format → Bool → Bool
inner_nullable (Some Struct) b = b
inner_nullable (Some FixedList) b = b
inner_nullable (Some Union) b = b
inner_nullable f b = false

-- whether the children of a node are kept
abbrev pub keeps : Option Format → Bool
keeps (Some TextView) = true
keeps (Some (ListView z)) = true
keeps f = false

-- whether each child has picks of its own
abbrev pub splits : Option Format → Bool
splits (Some DenseUnion) = true
splits f = false

-- whether the rows are those of a union, which are never null
abbrev pub tags : Option Format → Bool
tags (Some Union) = true
tags (Some DenseUnion) = true
tags f = false

abbrev pub is_union : List Part → Bool
is_union [] = false
is_union (p ∷ ps) = tags p.format

-- the picks of each child of a node that isn't kept itself
abbrev pub inner : Part → Picking → Picking
inner p q =
    record {
      picks = inner_picks p.format p q.picks;
      nullable = inner_nullable p.format q.nullable;
      kept = keeps p.format;
    }

abbrev pub below : Part → Picking → Picking
below p q = if q.kept then all_rows else inner p q

-- which child of a dense union the row at a pick stands in: the first, where the pick is null
abbrev pub dense_child : Part → Option ℕ → ℕ
dense_child p None = 0
dense_child p (Some i) = child_of (ids_of p) (slice_index p.values (p.offset + i))

-- and which row of it that is
abbrev pub dense_item : Part → Option ℕ → Option ℕ
dense_item p o = option_map (λ i. dense_start p (p.offset + i)) o

abbrev pub dense_row : Part → ℕ → Option ℕ → List (Option ℕ)
dense_row p j o = if dense_child p o == j then dense_item p o ∷ [] else []

-- the rows of child j that the rows at picks stand in
unfoldable pub dense_rows : Part → List (Option ℕ) → ℕ → List (Option ℕ)
dense_rows p q j = flat_map (dense_row p j) q

abbrev pub dense_picking : Part → Picking → ℕ → Picking
dense_picking p q j =
    record { picks = dense_rows p q.picks j; nullable = q.nullable; kept = false }

-- the picks of each child: its own, in a dense union, and else the same for all
abbrev pub inners_by : Option Format → Part → Picking → List Picking
inners_by (Some DenseUnion) p q = map (dense_picking p q) (range_with_len 0 p.children)
inners_by f p q = replicate p.children (inner p q)

abbrev pub inners : Part → Picking → List Picking
inners p q = inners_by p.format p q

-- and of the children of any node
abbrev pub belows : Part → Picking → List Picking
belows p q = if q.kept then replicate p.children all_rows else inners p q

-- the picks of each node of a table of trees, of which the first ones have these picks
abbrev pub pickings : List Part → List Picking → List Picking
pickings [] qs = []
pickings (p ∷ ps) [] = []
pickings (p ∷ ps) (q ∷ qs) = q ∷ pickings ps (belows p q ++ qs)

-- ---- what the rows at picks need

abbrev pub bytes_for : ℕ → ℕ
bytes_for n = (n + 7) / 8

-- whether bits of validity are written: where the column or the picks have some
abbrev pub shows_by : Option Format → Bool → Bool
shows_by (Some Nulls) b = false
shows_by (Some Union) b = false
shows_by (Some DenseUnion) b = false
shows_by f b = b

abbrev pub shows_valid : Part → Picking → Bool
shows_valid p q = shows_by p.format (has_bits p.valid || q.nullable)

abbrev pub offsets_len : Option Format → ℕ → ℕ
offsets_len None n = 0
offsets_len (Some Nulls) n = 0
offsets_len (Some Bits) n = 0
offsets_len (Some Fixed) n = 0
offsets_len (Some (Text z)) n = size_of z * (n + 1)
offsets_len (Some Struct) n = 0
offsets_len (Some (Lists z)) n = size_of z * (n + 1)
offsets_len (Some FixedList) n = 0
offsets_len (Some TextView) n = 0
offsets_len (Some (ListView z)) n = size_of z * n
offsets_len (Some Union) n = 0
offsets_len (Some DenseUnion) n = 4 * n

abbrev pub sizes_len : Option Format → Part → ℕ → ℕ
sizes_len None p n = 0
sizes_len (Some Nulls) p n = 0
sizes_len (Some Bits) p n = 0
sizes_len (Some Fixed) p n = 0
sizes_len (Some (Text z)) p n = 0
sizes_len (Some Struct) p n = 0
sizes_len (Some (Lists z)) p n = 0
sizes_len (Some FixedList) p n = 0
sizes_len (Some TextView) p n = 0
sizes_len (Some (ListView z)) p n = size_of z * n
sizes_len (Some Union) p n = p.children
sizes_len (Some DenseUnion) p n = p.children

abbrev pub values_len : Option Format → Part → List (Option ℕ) → ℕ
values_len None p q = 0
values_len (Some Nulls) p q = 0
values_len (Some Bits) p q = bytes_for (length q)
values_len (Some Fixed) p q = length q * p.width
values_len (Some (Text z)) p q = items_len z p q
values_len (Some Struct) p q = 0
values_len (Some (Lists z)) p q = 0
values_len (Some FixedList) p q = 0
values_len (Some TextView) p q = 16 * length q
values_len (Some (ListView z)) p q = 0
values_len (Some Union) p q = length q
values_len (Some DenseUnion) p q = length q

-- how many rows a node has at these picks, and how many bytes they are
abbrev pub own_need : Part → Picking → image.Need
own_need p q =
    record {
      len = length q.picks;
      valid = if shows_valid p q then bytes_for (length q.picks) else 0;
      offsets = offsets_len p.format (length q.picks);
      values = values_len p.format p q.picks;
      sizes = sizes_len p.format p (length q.picks);
    }

-- no bytes are needed for rows that are kept
abbrev pub kept_need : Part → image.Need
kept_need p = record { len = p.len; valid = 0; offsets = 0; values = 0; sizes = 0 }

abbrev pub need_of : Part → Picking → image.Need
need_of p q = if q.kept then kept_need p else own_need p q

abbrev pub needs_by : List Part → List Picking → List image.Need
needs_by [] qs = []
needs_by (p ∷ ps) [] = []
needs_by (p ∷ ps) (q ∷ qs) = need_of p q ∷ needs_by ps qs

-- what each node of a table needs at picks of its one column
abbrev pub needs_of : List Part → Picking → List image.Need
needs_of ps q = needs_by ps (pickings ps (q ∷ []))

-- the lengths can be counted: rows and items below 2^60, bytes below 2^63, and offsets by their
-- size
abbrev pub counts_by : Option Format → Part → List (Option ℕ) → Bool
counts_by None p q = true
counts_by (Some Nulls) p q = true
counts_by (Some Bits) p q = true
counts_by (Some Fixed) p q = nat_lt (length q * p.width) (2 ^ 63)
counts_by (Some (Text z)) p q = nat_lt (items_len z p q) (limit_of z)
counts_by (Some Struct) p q = true
counts_by (Some (Lists z)) p q = nat_lt (items_len z p q) (limit_of z)
counts_by (Some FixedList) p q = nat_lt (length q * p.width) (2 ^ 60)
counts_by (Some TextView) p q = nat_lt (16 * length q) (2 ^ 63)
counts_by (Some (ListView z)) p q = true
counts_by (Some Union) p q = true
counts_by (Some DenseUnion) p q = nat_lt (length q) (2 ^ 31)

unfoldable pub is_counted : Part → List (Option ℕ) → Bool
is_counted p q = nat_lt (length q) (2 ^ 60) && counts_by p.format p q
