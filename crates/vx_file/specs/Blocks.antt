-- What contracts see of blocks, and of a reader of blocks in memory.
use Rattle.std.specs.Prelude.{ℕ, ◌-◌, List, [], ◌∷◌, ◌++◌, Option, None, Some, nat_le, nat_lt, slice_index_or, if◌then◌else◌}
use Rattle.vx_io.specs.Bytes.{next_count}

-- the bytes of a block; a block past the last one has none
abbrev pub block_at : List (List ℕ) → ℕ → List ℕ
block_at blocks k = slice_index_or blocks k []

-- a reader, and which of its calls fail
pub record BlocksState : Type 0 where
  pub blocks : List (List ℕ)
  -- the numbers of the calls that fail
  pub failing : List ℕ
  -- the first reads, as many as there is room for
  pub kept : List ℕ
  pub room : ℕ
  -- the number of the next call
  pub call : ℕ
  -- how many calls have failed
  pub faults : ℕ

-- a reader that no call was made of
abbrev pub new_reader : List (List ℕ) → List ℕ → ℕ → BlocksState
new_reader blocks failing room =
    record { blocks = blocks; failing = failing; kept = []; room = room; call = 0; faults = 0 }

-- a call was asked for a block
abbrev pub after_call : BlocksState → ℕ → BlocksState
after_call s block =
    record s {
      kept = if nat_lt s.call s.room then s.kept ++ block ∷ [] else s.kept;
      call = next_count s.call;
    }

-- and failed
abbrev pub after_failed_call : BlocksState → ℕ → BlocksState
after_failed_call s block = record (after_call s block) { faults = next_count s.faults }

-- the reads, while all are kept
abbrev pub told_reads : BlocksState → Option (List ℕ)
told_reads s = if nat_le s.call s.room then Some s.kept else None

-- how many more reads are kept
abbrev pub reads_left : BlocksState → ℕ
reads_left s = s.room - s.call
