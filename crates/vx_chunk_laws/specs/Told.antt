-- Chunks that are to be read, and calls of a decoder.
use Rattle.std.specs.Prelude.{◌≡◌, ℕ, List, filter, map, Option}
use Rattle.std.specs.List.{range_with_len}
use Rattle.vx_decoder.specs.declared.call.Call.{Call}
use Rattle.vx_decoder.specs.declared.call.Call.TheVariants.{Whole, Only}
use Rattle.vx_chunked.specs.Asked.{asked_by_picks}
use Rattle.vx_chunk_plan.specs.Picks.{is_told}

-- the chunk that a call asks for
abbrev pub chunk_of : Call → ℕ
chunk_of (Whole chunk) = chunk
chunk_of (Only chunk count) = chunk

-- the chunks that picks ask for among the first n, whatever the limit up to which single values are
-- asked for, are those in which some pick lies
abbrev pub AreAsked : List (Option ℕ) → Type 0
AreAsked picks =
    (limit n : ℕ) → map chunk_of (asked_by_picks 0 picks limit n)
    ≡ filter (is_told 1024 picks) (range_with_len 0 n)
