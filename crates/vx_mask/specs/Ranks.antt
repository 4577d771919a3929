-- Counts of set bits, one for each 512 bits, and the words that ranks need beside them.
use Rattle.std.specs.Prelude.{ℕ, ◌+◌, ◌*◌, ◌/◌, Bool, ◌&&◌, nat_le, nat_lt, List, length, map, take, filter}
use Rattle.std.specs.List.{range_with_len}
use Rattle.vx_bits.specs.BitBuffer.{true_count_of}

-- for each multiple of 512 up to the length, the number of set bits before it
abbrev pub blocks_of : List Bool → List ℕ
blocks_of bits =
    map (λ b. true_count_of (take (512 * b) bits)) (range_with_len 0 (length bits / 512 + 1))

-- the numbers of the words that begin at bit `low` or behind it, and before bit `high`, ascending
unfoldable pub words_between : ℕ → ℕ → List ℕ
words_between low high =
    filter (λ w. nat_le low (64 * w) && nat_lt (64 * w) high) (range_with_len 0 high)
