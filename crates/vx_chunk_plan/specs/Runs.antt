-- Picks that ascend: those of a chunk follow one another.
use Rattle.std.specs.Prelude.{◌≡◌, ◌≢◌, ℕ, ◌-◌, ◌/◌, ◌<◌, ◌≤◌, List, [], length, slice_index}
use Rattle.std.specs.List.{range_with_len}
use Rattle.vx_chunk_plan.specs.Picks.{picks_in, picks_of}

-- places ascend; one may stand several times
abbrev pub DoAscend : List ℕ → Type 0
DoAscend places =
    (i j : ℕ) → i ≤ j → j < length places → slice_index places i ≤ slice_index places j

-- no pick before number `from` lies in the chunk, by the one before it
abbrev pub BeginsAt : ℕ → List ℕ → ℕ → ℕ → Type 0
BeginsAt chunk_len places from chunk =
    0 < from → slice_index places (from - 1) / chunk_len ≢ chunk

-- the picks from number `from` up to `end` lie in the chunk, and the next one doesn't; where places
-- ascend they are all of the chunk's
pub record IsRun (chunk_len : ℕ) (places : List ℕ) (from chunk end : ℕ) : Type 0 where
  pub some : from < end
  pub within : end ≤ length places
  pub lie : (j : ℕ) → from ≤ j → j < end → slice_index places j / chunk_len ≡ chunk
  pub next : end < length places → slice_index places end / chunk_len ≢ chunk
  pub own : DoAscend places → BeginsAt chunk_len places from chunk
      → picks_in chunk_len (picks_of places []) chunk ≡ range_with_len from (end - from)
