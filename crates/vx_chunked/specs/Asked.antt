-- The calls that selected values ask for.
use Rattle.std.specs.Prelude.{◌≡◌, ℕ, ◌+◌, ◌*◌, ◌/◌, Bool, false, true, List, [], ◌∷◌, ◌||◌, Option, None, Some, map, count_by, nat_le, ◌==◌, if◌then◌else◌}
use Rattle.std.specs.List.{range_with_len, flat_map}
use Rattle.std.specs.Int.{div_ceil}
use Rattle.vx_mask.specs.Positions.{ascending}
use Rattle.vx_decoder.specs.declared.call.Call.{Call}
use Rattle.vx_decoder.specs.declared.call.Call.TheVariants.{Whole, Only}

-- how many chunks hold n values
abbrev pub chunks_for : ℕ → ℕ
chunks_for n = div_ceil n 1024

-- where the `len` values from `offset` on end; at 0 where there are none
abbrev pub end_of : ℕ → ℕ → ℕ
end_of offset len = if len == 0 then 0 else offset + len

-- how many chunks the `len` values from `offset` on touch, where `offset` lies in the first chunk
abbrev pub chunks_touched : ℕ → ℕ → ℕ
chunks_touched offset len = chunks_for (end_of offset len)

-- the call for a chunk of which `count` values are selected, if there is one
abbrev pub call_for : ℕ → ℕ → ℕ → List Call
call_for limit chunk count =
    if count == 0 then []
    else if nat_le count limit then Only chunk count ∷ []
    else Whole chunk ∷ []

-- how many of the values lie in a chunk
abbrev pub count_in : List ℕ → ℕ → ℕ
count_in values chunk = count_by (λ value. value / 1024 == chunk) values

-- the calls that values ask for, each value once, in n chunks from chunk `first` on, ascending
unfoldable pub calls_from : ℕ → List ℕ → ℕ → ℕ → List Call
calls_from limit values first n =
    flat_map (λ chunk. call_for limit chunk (count_in values chunk)) (range_with_len first n)

-- the calls that positions ask for, each of them once and counted from value `offset` on, in the
-- first n chunks
abbrev pub asked : ℕ → List ℕ → ℕ → ℕ → List Call
asked offset set limit n = calls_from limit (map (λ p. offset + p) set) 0 n

-- whether a pick is value n; picks count from value `offset` on
abbrev pub is_picked : ℕ → List (Option ℕ) → ℕ → Bool
is_picked offset [] n = false
is_picked offset (None ∷ picks) n = is_picked offset picks n
is_picked offset (Some p ∷ picks) n = (offset + p == n) || is_picked offset picks n

-- how many values of a chunk are picked; one that is picked again counts once
abbrev pub picked_in : ℕ → List (Option ℕ) → ℕ → ℕ
picked_in offset picks chunk =
    count_by (is_picked offset picks) (range_with_len (1024 * chunk) 1024)

-- the calls that picks ask for in the first n chunks, whatever their order; a null asks for none
unfoldable pub asked_by_picks : ℕ → List (Option ℕ) → ℕ → ℕ → List Call
asked_by_picks offset picks limit n =
    flat_map (λ chunk. call_for limit chunk (picked_in offset picks chunk)) (range_with_len 0 n)

-- positions that ascend ask for the same calls as they do where they are handed in as picks
abbrev pub AskAlike : ℕ → ℕ → List ℕ → ℕ → ℕ → Type 0
AskAlike offset len set limit n =
    ascending 0 len set ≡ true
    → asked_by_picks offset (map Some set) limit n ≡ asked offset set limit n
