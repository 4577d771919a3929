-- What blocks state, and whether they are just that.
use Rattle.std.specs.Prelude.{ℕ, ◌*◌, ◌^◌, ◌==◌, ◌&&◌, Bool, List, Option, None, Some, nat_le, nat_lt, bytes_eq, drop, slice_index, if◌then◌else◌}
use Rattle.std.specs.Int.{from_le_bytes, w64}
use Rattle.std.specs.List.{list_all}
use Rattle.vx_types.specs.declared.ptype.PType.{PType}
use Rattle.vx_types.specs.declared.ptype.PType.TheVariants.{U8, U16, U32, U64}
use Rattle.vx_packed.specs.Chunk.{spell}
use Rattle.vx_packed.specs.Faults.{numbers_in}
use Rattle.vx_file.specs.Blocks.{block_at}
use Rattle.vx_file.specs.Shape.{ShapeValue, header}

-- the type that a header's byte stands for, where it stands for one
abbrev pub type_stated : ℕ → PType
type_stated b = if b == 0 then U8 else if b == 1 then U16 else if b == 2 then U32 else U64

-- the shape that bytes state, where they are a header
abbrev pub shape_stated : List ℕ → ShapeValue
shape_stated bytes =
    record { ptype = type_stated (slice_index bytes 8); len = from_le_bytes w64 (drop 9 bytes) }

-- the bytes are the header of the shape that they state, which has at most 2 ^ 24 rows
abbrev pub is_header : List ℕ → Bool
is_header bytes =
    bytes_eq bytes (header (shape_stated bytes)) && nat_le (shape_stated bytes).len 16777216

-- the shape whose header the bytes are; none where they are no header
unfoldable pub shape_in : List ℕ → Option ShapeValue
shape_in bytes = if is_header bytes then Some (shape_stated bytes) else None

-- the bytes are the spelling of the numbers that they state, which have so many bytes
unfoldable pub is_spelling : ℕ → List ℕ → Bool
is_spelling width bytes =
    bytes_eq bytes (spell (numbers_in bytes))
    && list_all (λ n. nat_lt n (2 ^ (8 * width))) (numbers_in bytes)

-- each of the blocks of these numbers is a spelling
abbrev pub are_spellings : ℕ → List (List ℕ) → List ℕ → Bool
are_spellings width blocks numbers =
    list_all (λ k. is_spelling width (block_at blocks k)) numbers
