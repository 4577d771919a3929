-- What a table of nodes means: nodes in preorder, read from the end with a stack of columns.
use Rattle.std.specs.Prelude.{ℕ, ◌+◌, ◌*◌, ◌/◌, ◌%◌, ◌^◌, Bool, true, false, ◌&&◌, ◌||◌, List, [], ◌∷◌, map, take, drop, length, slice_index, slice_index_or, slice_range, ◌==◌, nat_le, nat_lt, if◌then◌else◌, Option, Some, None}
use Rattle.std.specs.Int.{bit_at, from_le_bytes, w32, w64}
use Rattle.std.specs.List.{range_with_len, list_all, list_any, flat_map}
use Rattle.std.specs.Option.{option_and_then}
use Rattle.vx_arrow_image.specs.declared.format.Format.{Format}
use Rattle.vx_arrow_image.specs.declared.format.Format.TheVariants.{Nulls, Bits, Fixed, Text, Struct, List as Lists, FixedList, TextView, ListView, Union, DenseUnion}
use Rattle.vx_arrow_image.specs.declared.format.Offsets.{Offsets}
use Rattle.vx_arrow_image.specs.declared.format.Offsets.TheVariants.{Short, Long}
use Rattle.vx_arrow_image.specs.declared.image.Node as image
use Rattle.vx_arrow_image.specs.Rows.{RowValue, null, bit, bytes, list, fields, tagged, row_values}

-- the numbers and the bytes of a node
pub record Part : Type 0 where
  pub format : Option Format
  pub width : ℕ
  pub len : ℕ
  pub offset : ℕ
  pub children : ℕ
  pub valid : List ℕ
  pub offsets : List ℕ
  pub values : List ℕ
  pub sizes : List ℕ

abbrev pub format_in : ℕ → Option Format
format_in n =
    if n == 0 then Some Nulls
    else if n == 1 then Some Bits
    else if n == 2 then Some Fixed
    else if n == 3 then Some (Text Short)
    else if n == 4 then Some (Text Long)
    else if n == 5 then Some Struct
    else if n == 6 then Some (Lists Short)
    else if n == 7 then Some (Lists Long)
    else if n == 8 then Some FixedList
    else if n == 9 then Some TextView
    else if n == 10 then Some (ListView Short)
    else if n == 11 then Some (ListView Long)
    else if n == 12 then Some Union
    else if n == 13 then Some DenseUnion
    else None

abbrev pub part_of : image.Node → Part
part_of n =
    record {
      format = format_in n.format;
      width = n.width;
      len = n.len;
      offset = n.offset;
      children = n.children;
      valid = n.valid.now;
      offsets = n.offsets.now;
      values = n.values.now;
      sizes = n.sizes.now;
    }

abbrev pub parts_of : List image.Node → List Part
parts_of nodes = map part_of nodes

-- ---- bits and offsets

-- bit j of the bytes, the least significant of each byte first
abbrev pub bit_of : List ℕ → ℕ → Bool
bit_of bs j = bit_at (slice_index bs (j / 8)) (j % 8) == 1

-- whether row j is valid; without bits each row is
abbrev pub is_valid : List ℕ → ℕ → Bool
is_valid [] j = true
is_valid (b ∷ bs) j = bit_of (b ∷ bs) j

-- how many bytes an offset has
abbrev pub size_of : Offsets → ℕ
size_of Short = 4
size_of Long = 8

-- offsets are below it
abbrev pub limit_of : Offsets → ℕ
limit_of Short = 2 ^ 31
limit_of Long = 2 ^ 60

-- offset j
unfoldable pub offset_at : Offsets → List ℕ → ℕ → ℕ
offset_at Short bs j = from_le_bytes w32 (take 4 (drop (4 * j) bs))
offset_at Long bs j = from_le_bytes w64 (take 8 (drop (8 * j) bs))

-- ---- views

-- how many bytes the text of view i has
abbrev pub view_len : Part → ℕ → ℕ
view_len p i = offset_at Short p.values (4 * i)

-- which child a text of more than 12 bytes stands in
abbrev pub view_buffer : Part → ℕ → ℕ
view_buffer p i = offset_at Short p.values (4 * i + 2)

-- and where it begins there
abbrev pub view_start : Part → ℕ → ℕ
view_start p i = offset_at Short p.values (4 * i + 3)

-- the text of view i lies in itself, or within children that have so many rows
unfoldable pub is_view : Part → List ℕ → ℕ → Bool
is_view p lens i =
    nat_lt (view_len p i) (2 ^ 31)
    && (nat_le (view_len p i) 12
    || (nat_lt (view_buffer p i) (length lens)
    && (nat_lt (view_start p i) (2 ^ 31)
    && nat_le (view_start p i + view_len p i) (slice_index lens (view_buffer p i)))))

-- the items of list view i are among so many
unfoldable pub is_list_view : Offsets → Part → ℕ → ℕ → Bool
is_list_view z p count i =
    nat_lt (offset_at z p.offsets i) (limit_of z)
    && (nat_lt (offset_at z p.sizes i) (limit_of z)
    && nat_le (offset_at z p.offsets i + offset_at z p.sizes i) count)

-- ---- unions

-- the ids of the children, in order
abbrev pub ids_of : Part → List ℕ
ids_of p = take p.children p.sizes

-- the first child with an id
abbrev pub child_of : List ℕ → ℕ → ℕ
child_of [] id = 0
child_of (x ∷ xs) id = if x == id then 0 else child_of xs id + 1

-- row i has the id of a child
unfoldable pub has_child : Part → ℕ → Bool
has_child p i = list_any (λ x. x == slice_index p.values i) (ids_of p)

-- the row that row i of a dense union is of its child
abbrev pub dense_start : Part → ℕ → ℕ
dense_start p i = offset_at Short p.offsets i

-- it is there, in children that have so many rows
unfoldable pub is_dense : Part → List ℕ → ℕ → Bool
is_dense p lens i =
    nat_lt (dense_start p i) (2 ^ 31)
    && nat_lt (dense_start p i) (slice_index lens (child_of (ids_of p) (slice_index p.values i)))

-- ---- which nodes are sound

abbrev pub holds_valid : List ℕ → ℕ → Bool
holds_valid [] end = true
holds_valid (b ∷ bs) end = nat_le end (8 * length (b ∷ bs))

-- the rows have numbers below 2^60, and each has a bit of validity, if there are any
unfoldable pub is_placed : Part → Bool
is_placed p = nat_lt (p.offset + p.len) (2 ^ 60) && holds_valid p.valid (p.offset + p.len)

-- there is an offset for each row and one more; no rows need none
abbrev pub holds_offsets : Offsets → Part → Bool
holds_offsets z p =
    (p.len == 0) || nat_le (size_of z * (p.offset + p.len + 1)) (length p.offsets)

-- the items of row i stand in order among so many
unfoldable pub is_cut : Offsets → Part → ℕ → ℕ → Bool
is_cut z p count i =
    nat_le (offset_at z p.offsets i) (offset_at z p.offsets (i + 1))
    && (nat_lt (offset_at z p.offsets (i + 1)) (limit_of z)
    && nat_le (offset_at z p.offsets (i + 1)) count)

-- each row's items stand in order among so many
unfoldable pub are_cut : Offsets → Part → ℕ → Bool
are_cut z p count =
    holds_offsets z p && list_all (is_cut z p count) (range_with_len p.offset p.len)

-- there is a number of this size for each row
abbrev pub holds_starts : Offsets → List ℕ → ℕ → Bool
holds_starts z numbers end = nat_le (size_of z * end) (length numbers)

-- it holds of row i, if that is valid
abbrev pub if_valid : Part → (ℕ → Bool) → ℕ → Bool
if_valid p f i = if is_valid p.valid i then f i else true

-- it holds of each valid row
unfoldable pub all_valid : Part → (ℕ → Bool) → Bool
all_valid p f = list_all (if_valid p f) (range_with_len p.offset p.len)

-- no validity, some children, and an id for each of them and for each row
abbrev pub holds_ids : Part → Bool
holds_ids p =
    (length p.valid == 0)
    && (nat_lt 0 p.children
    && (nat_le p.children (length p.sizes) && nat_le (p.offset + p.len) (length p.values)))

-- its lists, and its children, which have so many rows, are long enough
abbrev pub fits : Option Format → Part → List ℕ → Bool
fits None p lens = false
fits (Some Nulls) p lens = p.children == 0
fits (Some Bits) p lens = (p.children == 0) && nat_le (p.offset + p.len) (8 * length p.values)
fits (Some Fixed) p lens =
    (p.children == 0) && nat_le ((p.offset + p.len) * p.width) (length p.values)
fits (Some (Text z)) p lens = (p.children == 0) && are_cut z p (length p.values)
fits (Some Struct) p lens = list_all (λ n. nat_le (p.offset + p.len) n) lens
fits (Some (Lists z)) p lens = (p.children == 1) && are_cut z p (slice_index lens 0)
fits (Some FixedList) p lens =
    (p.children == 1) && nat_le ((p.offset + p.len) * p.width) (slice_index lens 0)
fits (Some TextView) p lens =
    nat_le (16 * (p.offset + p.len)) (length p.values) && all_valid p (is_view p lens)
fits (Some (ListView z)) p lens =
    (p.children == 1)
    && (holds_starts z p.offsets (p.offset + p.len)
    && (holds_starts z p.sizes (p.offset + p.len)
    && all_valid p (is_list_view z p (slice_index lens 0))))
fits (Some Union) p lens =
    holds_ids p
    && (list_all (λ n. nat_le (p.offset + p.len) n) lens
    && list_all (has_child p) (range_with_len p.offset p.len))
fits (Some DenseUnion) p lens =
    holds_ids p
    && (holds_starts Short p.offsets (p.offset + p.len)
    && list_all (is_dense p lens) (range_with_len p.offset p.len))

unfoldable pub is_sound : Part → List ℕ → Bool
is_sound p lens = is_placed p && fits p.format p lens

-- ---- the column that a sound node means over the columns of its children

-- the bytes of a row
abbrev pub row_bytes : RowValue → List ℕ
row_bytes null = []
row_bytes (bit b) = []
row_bytes (bytes bs) = bs
row_bytes (list items) = []
row_bytes (fields items) = []
row_bytes (tagged id row) = []

-- the text of view i: its own bytes, or those of rows of a child
abbrev pub view_text : Part → List (List RowValue) → ℕ → List ℕ
view_text p cs i =
    if nat_le (view_len p i) 12 then take (view_len p i) (drop (16 * i + 4) p.values)
    else
    flat_map row_bytes
    (slice_range (slice_index_or cs (view_buffer p i) []) (view_start p i)
    (view_start p i + view_len p i))

-- row i, counted from the start of its lists, where it is there
abbrev pub value_at : Option Format → Part → List (List RowValue) → ℕ → RowValue
value_at None p cs i = null
value_at (Some Nulls) p cs i = null
value_at (Some Bits) p cs i = bit (bit_of p.values i)
value_at (Some Fixed) p cs i = bytes (take p.width (drop (i * p.width) p.values))
value_at (Some (Text z)) p cs i =
    bytes (slice_range p.values (offset_at z p.offsets i) (offset_at z p.offsets (i + 1)))
value_at (Some Struct) p cs i = fields (row_values (map (λ c. slice_index_or c i null) cs))
value_at (Some (Lists z)) p cs i =
    list (row_values
    (slice_range (slice_index_or cs 0 []) (offset_at z p.offsets i)
    (offset_at z p.offsets (i + 1))))
value_at (Some FixedList) p cs i =
    list (row_values (take p.width (drop (i * p.width) (slice_index_or cs 0 []))))
value_at (Some TextView) p cs i = bytes (view_text p cs i)
value_at (Some (ListView z)) p cs i =
    list (row_values
    (slice_range (slice_index_or cs 0 []) (offset_at z p.offsets i)
    (offset_at z p.offsets i + offset_at z p.sizes i)))
value_at (Some Union) p cs i =
    tagged (slice_index p.values i)
    (slice_index_or (slice_index_or cs (child_of (ids_of p) (slice_index p.values i)) []) i null)
value_at (Some DenseUnion) p cs i =
    tagged (slice_index p.values i)
    (slice_index_or (slice_index_or cs (child_of (ids_of p) (slice_index p.values i)) [])
    (dense_start p i) null)

abbrev pub row_of : Part → List (List RowValue) → ℕ → RowValue
row_of p cs i = if is_valid p.valid i then value_at p.format p cs i else null

unfoldable pub column_of : Part → List (List RowValue) → List RowValue
column_of p cs = map (row_of p cs) (range_with_len p.offset p.len)

-- ---- the columns of a table

-- a node before columns takes the first ones as its children, and its own column stands there
unfoldable pub with_part : Part → List (List RowValue) → Option (List (List RowValue))
with_part p cs =
    if nat_le p.children (length cs) && is_sound p (map length (take p.children cs)) then
    Some (column_of p (take p.children cs) ∷ drop p.children cs)
    else None

-- the columns of a table of whole trees
abbrev pub columns_in : List Part → Option (List (List RowValue))
columns_in [] = Some []
columns_in (p ∷ ps) = option_and_then (with_part p) (columns_in ps)

abbrev pub only : Option (List (List RowValue)) → Option (List RowValue)
only None = None
only (Some []) = None
only (Some (c ∷ [])) = Some c
only (Some (c ∷ (d ∷ cs))) = None

-- the rows of the one column that a table means, if it means one
abbrev pub column_in : List Part → Option (List RowValue)
column_in parts = only (columns_in parts)
