-- Picks of the rows of a column that lies in chunks.
use Rattle.std.specs.Prelude.{ℕ, ◌/◌, Bool, false, List, filter, is_some, length, map, nat_lt, not, ◌==◌, if◌then◌else◌, Option, Some, None, slice_index, slice_index_or}
use Rattle.std.specs.Int.{div_ceil}
use Rattle.std.specs.List.{list_any, range_with_len}
use Rattle.vx_arrow_image.specs.Image.{is_valid}

-- pick j: the row at its place, or a null
abbrev pub pick_at : List ℕ → List ℕ → ℕ → Option ℕ
pick_at places valid j = if is_valid valid j then Some (slice_index places j) else None

-- the picks that places and bits of validity say; without bits none is null
unfoldable pub picks_of : List ℕ → List ℕ → List (Option ℕ)
picks_of places valid = map (pick_at places valid) (range_with_len 0 (length places))

-- how many chunks hold so many rows
abbrev pub chunks_of : ℕ → ℕ → ℕ
chunks_of len chunk_len = div_ceil len chunk_len

-- whether a pick lies in chunk k; a null lies in none
abbrev pub lies_in : ℕ → ℕ → Option ℕ → Bool
lies_in chunk_len k None = false
lies_in chunk_len k (Some p) = p / chunk_len == k

-- whether a pick lies in a chunk before chunk k
abbrev pub lies_before : ℕ → ℕ → Option ℕ → Bool
lies_before chunk_len k None = false
lies_before chunk_len k (Some p) = nat_lt (p / chunk_len) k

-- whether a chunk is to be read: some pick lies in it
abbrev pub is_told : ℕ → List (Option ℕ) → ℕ → Bool
is_told chunk_len picks k = list_any (lies_in chunk_len k) picks

-- whether some pick is null
abbrev pub has_null : List (Option ℕ) → Bool
has_null picks = list_any (λ o. not (is_some o)) picks

-- the numbers of the picks that lie in chunk k, ascending
unfoldable pub picks_in : ℕ → List (Option ℕ) → ℕ → List ℕ
picks_in chunk_len picks k =
    filter (λ j. lies_in chunk_len k (slice_index_or picks j None))
    (range_with_len 0 (length picks))

-- the numbers of the picks that are null, ascending
unfoldable pub nulls_of : List (Option ℕ) → List ℕ
nulls_of picks =
    filter (λ j. not (is_some (slice_index_or picks j None))) (range_with_len 0 (length picks))
