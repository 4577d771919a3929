-- Picks among the set positions of a mask.
use Rattle.std.specs.Prelude.{◌≡◌, ◌↔◌, ℕ, ◌+◌, ◌*◌, ◌/◌, Bool, true, List, length, map, take, Contains, Option, None, Some, IfSome, slice_get}
use Rattle.std.specs.List.{All, range_with_len}
use Rattle.std.specs.Option.{option_map}
use Rattle.vx_bits.specs.BitBuffer.{true_count_of}
use Rattle.vx_mask.specs.Positions.{rank_of}
use Rattle.vx_take.specs.Picks.{null_place}

-- the set positions that ranks name; null stays null
abbrev pub positions_by_rank : List Bool → List (Option ℕ) → List (Option ℕ)
positions_by_rank bits ranks = map (option_map (rank_of bits)) ranks

-- how many set positions stand before each pick; null stays null
abbrev pub ranks_of_picks : List Bool → List (Option ℕ) → List (Option ℕ)
ranks_of_picks bits picks = map (option_map (λ p. true_count_of (take p bits))) picks

-- each non-null pick is a set position
abbrev pub AreSet : List Bool → List (Option ℕ) → Type 0
AreSet bits picks = All (λ pick. IfSome pick (λ p. slice_get bits p ≡ Some true)) picks

-- the set positions are just the non-null picks
abbrev pub AreJustSet : List Bool → List (Option ℕ) → Type 0
AreJustSet bits picks = (p : ℕ) → (slice_get bits p ≡ Some true) ↔ Contains picks (Some p)

-- the place of the rank of a pick
abbrev pub place_before : List Bool → Option ℕ → ℕ
place_before bits None = null_place
place_before bits (Some p) = true_count_of (take p bits)

-- for each word of bits, the number of set bits before it
abbrev pub word_counts : List Bool → List ℕ
word_counts bits =
    map (λ w. true_count_of (take (64 * w) bits)) (range_with_len 0 (length bits / 64 + 1))
