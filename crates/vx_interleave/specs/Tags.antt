-- Ids of rows of unions, and the places of rows among those of their variants.
use Rattle.std.specs.Prelude.{◌≡◌, ◌==◌, ℕ, ◌+◌, ◌<◌, ◌++◌, Bool, false, List, [], ◌∷◌, filter, count_by, map, Option, None, Some, slice_index, slice_set}
use Rattle.vx_types.specs.RowValue.{RowValue, null, bytes, tagged}

-- the id of a row; none of a null
abbrev pub tag_in : RowValue → Option ℕ
tag_in (tagged id x) = Some id
tag_in x = None

-- the row of its variant
abbrev pub row_in : RowValue → RowValue
row_in (tagged id x) = x
row_in x = null

abbrev pub is_tag : ℕ → Option ℕ → Bool
is_tag id None = false
is_tag id (Some v) = v == id

-- the rows of the variant of an id, in order
abbrev pub rows_under : ℕ → List RowValue → List RowValue
rows_under id rows = map row_in (filter (λ x. is_tag id (tag_in x)) rows)

-- the row of a column of ids
abbrev pub id_row : Option ℕ → RowValue
id_row None = null
id_row (Some id) = bytes (id ∷ [])

-- ---- places

-- how many rows of an id are before a row of this one; 0 of a null
abbrev pub place_after : List (Option ℕ) → Option ℕ → ℕ
place_after before None = 0
place_after before (Some id) = count_by (is_tag id) before

-- of each of some rows behind others, how many rows of its id are before it; 0 of a null
abbrev pub places_after : List (Option ℕ) → List (Option ℕ) → List ℕ
places_after before [] = []
places_after before (t ∷ tags) = place_after before t ∷ places_after (before ++ t ∷ []) tags

-- for each id of a byte how many rows have it
abbrev pub AreCounts : List (Option ℕ) → List ℕ → Type 0
AreCounts tags counts =
    (id : ℕ) → id < 256 → slice_index counts id ≡ count_by (is_tag id) tags

-- the place of a row of an id, by the counts
abbrev pub next_place : List ℕ → Option ℕ → ℕ
next_place counts None = 0
next_place counts (Some id) = slice_index counts id

-- the counts with one row more
abbrev pub counted : List ℕ → Option ℕ → List ℕ
counted counts None = counts
counted counts (Some id) = slice_set counts id (slice_index counts id + 1)
