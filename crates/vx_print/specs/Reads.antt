-- The line of the blocks that were read of a file.
use Rattle.std.specs.Prelude.{ℕ, List, ◌++◌, codes, decimal, flat_map}
use Rattle.vx_print.specs.Text.{line}

-- a block that was read
abbrev pub read_text : ℕ → List ℕ
read_text block = codes " " ++ decimal block

-- the blocks, in order
abbrev pub reads_text : List ℕ → List ℕ
reads_text blocks = line (codes "reads:" ++ flat_map read_text blocks)
