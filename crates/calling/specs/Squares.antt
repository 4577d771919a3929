-- The values of a decoder that computes squares.
use Rattle.std.proofs.Common.{◌≡◌, ℕ, ◌*◌, ◌%◌, ◌^◌, ◌<◌, ◌≤◌, List, length, map, arith}
use Rattle.std.proofs.lemmas.List.FromFn.{length-map-range_with_len}
use Rattle.std.specs.List.{range_with_len}
use Rattle.std.specs.Int.{to_le_bytes, w64}

-- the record of n times n
abbrev pub square : ℕ → List ℕ
square n = to_le_bytes w64 (n * n)

-- the squares of the numbers below n
abbrev pub squares_below : ℕ → List (List ℕ)
squares_below n = map square (range_with_len 0 n)

pub squares_are_whole : (chunks : ℕ) → length (squares_below (1024 * chunks)) % 1024 ≡ 0
squares_are_whole chunks = omega (arith, length-map-range_with_len square 0 (1024 * chunks))

pub squares_are_bounded : (chunks : ℕ) → chunks ≤ 2 ^ 22
    → length (squares_below (1024 * chunks)) < 2 ^ 64
squares_are_bounded chunks few = omega (arith, length-map-range_with_len square 0 (1024 * chunks))
