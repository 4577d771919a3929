-- Why calls are refused: the first rule that is broken.
use Rattle.std.specs.Prelude.{ℕ, ◌+◌, ◌-◌, ◌*◌, ◌/◌, ◌%◌, ◌^◌, Bool, true, false, not, ◌&&◌, ◌||◌, List, [], ◌∷◌, length, min, nat_le, nat_lt, ◌==◌, if◌then◌else◌, Option, Some, None, position, slice_index}
use Rattle.std.specs.Int.{div_ceil}
use Rattle.std.specs.List.{range_with_len}
use Rattle.std.specs.Option.{option_map, option_or}
use Rattle.vx_chunk_plan.specs.declared.fault.Fault.{Fault}
use Rattle.vx_chunk_plan.specs.declared.fault.Fault.TheVariants.{Width, ChunkLen, Starts, Order, Valid, Place, Chunk, Bytes, Output, Stray}
use Rattle.vx_chunk_plan.specs.Picks.{chunks_of, pick_at}

-- whether bits of validity are enough for so many picks; none are always
abbrev pub has_valid : List ℕ → ℕ → Bool
has_valid [] n = true
has_valid (b ∷ bs) n = nat_le (div_ceil n 8) (length (b ∷ bs))

-- whether a row has from 1 to 2^20 bytes
abbrev pub is_width : ℕ → Bool
is_width width = nat_lt 0 width && nat_le width (2 ^ 20)

-- whether so many bytes have rows of this width for so many picks
abbrev pub has_rows : ℕ → ℕ → ℕ → Bool
has_rows bytes width count = nat_le count (bytes / width)

-- ---- a plan

abbrev pub lists_fault : List ℕ → List ℕ → ℕ → ℕ → ℕ → ℕ → Option Fault
lists_fault places valid len chunk_len starts order =
    if chunk_len == 0 then Some ChunkLen
    else if not (starts == chunks_of len chunk_len + 1) then Some Starts
    else if not (order == length places) then Some Order
    else if not (has_valid valid (length places)) then Some Valid
    else None

-- whether a pick is past the rows
abbrev pub is_beyond : ℕ → Option ℕ → Bool
is_beyond len None = false
is_beyond len (Some p) = nat_le len p

-- the first pick that is
unfoldable pub first_beyond : List ℕ → List ℕ → ℕ → Option ℕ
first_beyond places valid len =
    position (λ j. is_beyond len (pick_at places valid j)) (range_with_len 0 (length places))

-- why picks aren't planned: places and validity, the rows of the column and of a chunk, and how
-- long the lists of starts and numbers are
abbrev pub plan_fault : List ℕ → List ℕ → ℕ → ℕ → ℕ → ℕ → Option Fault
plan_fault places valid len chunk_len starts order =
    option_or (lists_fault places valid len chunk_len starts order)
    (option_map Place (first_beyond places valid len))

-- ---- a chunk

-- the first row of chunk k
abbrev pub first_row : ℕ → ℕ → ℕ
first_row chunk_len k = k * chunk_len

-- how many rows chunk k has
abbrev pub rows_in : ℕ → ℕ → ℕ → ℕ
rows_in len chunk_len k = min chunk_len (len - k * chunk_len)

-- whether so many bytes are rows of this width, as many as the chunk has, or those of a whole chunk
abbrev pub is_chunk : ℕ → ℕ → ℕ → ℕ → Bool
is_chunk bytes width rows chunk_len =
    bytes % width == 0 && (bytes / width == rows || bytes / width == chunk_len)

-- whether this is the number of a pick among the rows from `first` on
abbrev pub is_among : List ℕ → ℕ → ℕ → ℕ → Bool
is_among places first rows j =
    nat_lt j (length places)
    && (nat_le first (slice_index places j) && nat_lt (slice_index places j) (first + rows))

-- the first number that isn't
abbrev pub first_stray : List ℕ → List ℕ → ℕ → ℕ → Option ℕ
first_stray places order first rows =
    position (λ j. not (is_among places first rows j)) order

abbrev pub bytes_fault : ℕ → ℕ → ℕ → ℕ → ℕ → ℕ → ℕ → Option Fault
bytes_fault bytes k len chunk_len width places out =
    if not (is_width width) then Some Width
    else if chunk_len == 0 then Some ChunkLen
    else if not (nat_lt k (chunks_of len chunk_len)) then Some Chunk
    else if not (is_chunk bytes width (rows_in len chunk_len k) chunk_len) then Some Bytes
    else if not (has_rows out width places) then Some Output
    else None

-- why a chunk isn't scattered: how many bytes it has, which one it is, the rows of the column and
-- of a chunk, the width of a row, places and numbers of picks, and how many bytes the output has
abbrev pub scatter_fault
    : ℕ → ℕ → ℕ → ℕ → ℕ → List ℕ → List ℕ → ℕ → Option Fault
scatter_fault bytes k len chunk_len width places order out =
    option_or (bytes_fault bytes k len chunk_len width (length places) out)
    (option_map Stray
    (first_stray places order (first_row chunk_len k) (rows_in len chunk_len k)))

-- ---- nulls

abbrev pub nulls_fault : List ℕ → ℕ → ℕ → ℕ → Option Fault
nulls_fault valid count width out =
    if not (is_width width) then Some Width
    else if not (has_valid valid count) then Some Valid
    else if not (has_rows out width count) then Some Output
    else None
