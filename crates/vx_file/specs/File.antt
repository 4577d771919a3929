-- A file of a column: its blocks, and the rows in them.
use Rattle.std.specs.Prelude.{ℕ, ◌+◌, ◌-◌, ◌/◌, ◌%◌, List, ◌∷◌, ◌++◌, length, map, replicate, slice_index}
use Rattle.std.specs.List.{range_with_len}
use Rattle.vx_types.specs.PType.{width}
use Rattle.vx_types.specs.RowValue.{RowValue, bytes}
use Rattle.vx_packed.specs.Chunk.{chunk_at, spell}
use Rattle.vx_packed.specs.Faults.{numbers_in}
use Rattle.vx_packed.specs.Parts.{record_of}
use Rattle.vx_file.specs.Blocks.{block_at}
use Rattle.vx_file.specs.Shape.{ShapeValue, header}
use Rattle.vx_file.specs.Touched.{blocks_for}

-- at most 1024 numbers, and behind them the last one again, up to 1024
abbrev pub whole_block : List ℕ → List ℕ
whole_block numbers =
    numbers ++ replicate (1024 - length numbers) (slice_index numbers (length numbers - 1))

-- the blocks of a file: the header, and the spelling of each 1024 rows
abbrev pub file_of : ShapeValue → List ℕ → List (List ℕ)
file_of s values =
    header s
    ∷ map (λ k. spell (whole_block (chunk_at values k)))
    (range_with_len 0 (blocks_for (length values)))

-- the number of row p, which is one of those that its block states
abbrev pub number_at : List (List ℕ) → ℕ → ℕ
number_at blocks p = slice_index (numbers_in (block_at blocks (p / 1024 + 1))) (p % 1024)

-- the rows of a file, as its blocks state them
abbrev pub file_rows : List (List ℕ) → ShapeValue → List RowValue
file_rows blocks s =
    map (λ p. bytes (record_of (width s.ptype) (number_at blocks p))) (range_with_len 0 s.len)
