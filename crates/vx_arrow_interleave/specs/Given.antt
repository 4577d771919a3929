-- Which rows of each node are joined, and what they need.
use Rattle.std.specs.Prelude.{ℕ, ◌+◌, ◌-◌, ◌*◌, ◌==◌, ◌&&◌, Bool, true, false, List, [], ◌∷◌, ◌++◌, map, length, nat_lt, replicate, slice_index, if◌then◌else◌, Option, Some}
use Rattle.std.specs.List.{flat_map, range_with_len}
use Rattle.vx_arrow_image.specs.declared.format.Format.{Format}
use Rattle.vx_arrow_image.specs.declared.format.Format.TheVariants.{Bits, Fixed, Text, Struct, List as Lists, FixedList, TextView, ListView, Union, DenseUnion}
use Rattle.vx_arrow_image.specs.declared.format.Offsets.{Offsets}
use Rattle.vx_arrow_image.specs.declared.image.Need as needed
use Rattle.vx_arrow_image.specs.Image.{Part, child_of, dense_start, ids_of, is_valid, offset_at, view_buffer, view_len, view_start}
use Rattle.vx_arrow_columns.specs.Picks.{bytes_for, offsets_len, sizes_len}
use Rattle.vx_arrow_interleave.specs.Sources.{moved, part_at, shows_valid}
use Rattle.vx_arrow_interleave.specs.Spots.{Spot, run_of, spot}

-- the rows of a node by their places in its lists
unfoldable pub places : List Part → List Spot → List Spot
places ps ss = map (moved ps) ss

-- the items of row i of a source, counted from the start of its lists; none where it isn't there
abbrev pub items_at : Offsets → Part → ℕ → ℕ → List Spot
items_at z p s i =
    if is_valid p.valid i then run_of s (offset_at z p.offsets i)
    (offset_at z p.offsets (i + 1) - offset_at z p.offsets i)
    else []

-- the items of the row at a place
abbrev pub row_items : Offsets → List Part → Spot → List Spot
row_items z ps s = items_at z (part_at ps s.source) s.source s.row

-- and of the rows at places
unfoldable pub items : Offsets → List Part → List Spot → List Spot
items z ps ss = flat_map (row_items z ps) ss

-- the items of a row of so many
abbrev pub fixed_row : ℕ → Spot → List Spot
fixed_row w s = run_of s.source (s.row * w) w

unfoldable pub fixed_items : ℕ → List Spot → List Spot
fixed_items w ss = flat_map (fixed_row w) ss

-- the items of the list view at a place
abbrev pub view_items_at : Offsets → Part → ℕ → ℕ → List Spot
view_items_at z p s i =
    if is_valid p.valid i then run_of s (offset_at z p.offsets i) (offset_at z p.sizes i) else []

abbrev pub row_view_items : Offsets → List Part → Spot → List Spot
row_view_items z ps s = view_items_at z (part_at ps s.source) s.source s.row

unfoldable pub view_items : Offsets → List Part → List Spot → List Spot
view_items z ps ss = flat_map (row_view_items z ps) ss

-- the row of child j of a dense union that a row is, if it is one
abbrev pub dense_item : ℕ → Part → ℕ → ℕ → List Spot
dense_item j p s i =
    if child_of (ids_of p) (slice_index p.values i) == j then spot s (dense_start p i) ∷ [] else []

abbrev pub row_dense_item : ℕ → List Part → Spot → List Spot
row_dense_item j ps s = dense_item j (part_at ps s.source) s.source s.row

unfoldable pub dense_items : List Part → List Spot → ℕ → List Spot
dense_items ps ss j = flat_map (row_dense_item j ps) ss

-- whether the text of a view stands in buffer j
abbrev pub views_into : ℕ → Part → ℕ → Bool
views_into j p i = is_valid p.valid i && (nat_lt 12 (view_len p i) && view_buffer p i == j)

-- the bytes of buffer j that the view at a place shows
abbrev pub viewed_item : ℕ → Part → ℕ → ℕ → List Spot
viewed_item j p s i =
    if views_into j p i then run_of s (view_start p i) (view_len p i) else []

abbrev pub row_viewed_item : ℕ → List Part → Spot → List Spot
row_viewed_item j ps s = viewed_item j (part_at ps s.source) s.source s.row

unfoldable pub viewed_items : List Part → List Spot → ℕ → List Spot
viewed_items ps ss j = flat_map (row_viewed_item j ps) ss

-- the rows of each child, by the places of its parent's
abbrev pub below_by : Option Format → List Part → List Spot → List Spot
below_by (Some Struct) ps ss = ss
below_by (Some (Lists z)) ps ss = items z ps ss
below_by (Some FixedList) ps ss = fixed_items (part_at ps 0).width ss
below_by (Some (ListView z)) ps ss = view_items z ps ss
below_by (Some Union) ps ss = ss
below_by f ps ss = []

abbrev pub below : List Part → List Spot → List Spot
below ps ss = below_by (part_at ps 0).format ps (places ps ss)

-- of each child: its own of dense unions and of views of texts, and else the same for all
abbrev pub belows_by : Option Format → List Part → List Spot → List (List Spot)
belows_by (Some TextView) ps ss =
    map (viewed_items ps ss) (range_with_len 0 (part_at ps 0).children)
belows_by (Some DenseUnion) ps ss =
    map (dense_items ps ss) (range_with_len 0 (part_at ps 0).children)
belows_by f ps ss = replicate (part_at ps 0).children (below_by f ps ss)

abbrev pub belows : List Part → List Spot → List (List Spot)
belows ps ss = belows_by (part_at ps 0).format ps (places ps ss)

-- each child has its own
abbrev pub splits : Option Format → Bool
splits (Some TextView) = true
splits (Some DenseUnion) = true
splits f = false

-- the rows of each node of tables of trees, of which the first ones have these rows
abbrev pub given : List (List Part) → List (List Spot) → List (List Spot)
given [] st = []
given (ps ∷ gs) [] = []
given (ps ∷ gs) (ss ∷ st) = ss ∷ given gs (belows ps ss ++ st)

-- ---- what they need

-- bytes of values of rows at places
abbrev pub values_len : Option Format → List Part → List Spot → ℕ
values_len (Some Bits) ps ss = bytes_for (length ss)
values_len (Some Fixed) ps ss = length ss * (part_at ps 0).width
values_len (Some (Text z)) ps ss = length (items z ps ss)
values_len (Some TextView) ps ss = 16 * length ss
values_len (Some Union) ps ss = length ss
values_len (Some DenseUnion) ps ss = length ss
values_len f ps ss = 0

abbrev pub need_of : List Part → List Spot → needed.Need
need_of ps ss =
    record {
      len = length ss;
      valid = if shows_valid ps then bytes_for (length ss) else 0;
      offsets = offsets_len (part_at ps 0).format (length ss);
      values = values_len (part_at ps 0).format ps (places ps ss);
      sizes = sizes_len (part_at ps 0).format (part_at ps 0) (length ss);
    }

abbrev pub needs_by : List (List Part) → List (List Spot) → List needed.Need
needs_by [] st = []
needs_by (ps ∷ gs) [] = []
needs_by (ps ∷ gs) (ss ∷ st) = need_of ps ss ∷ needs_by gs st

-- what each node of the tables needs at rows of their columns
abbrev pub needs_of : List (List Part) → List Spot → List needed.Need
needs_of gs ss = needs_by gs (given gs (ss ∷ []))
