-- The set positions of bytes.
use Rattle.std.specs.Prelude.{◌≡◌, ℕ, ◌*◌, ◌<◌, List, length, take, drop}
use Rattle.std.specs.Int.RustNames.{count_ones}
use Rattle.std.specs.List.{All}
use Rattle.vx_bits.specs.Words.{word_bits}
use Rattle.vx_mask.specs.Positions.{set_of}

-- the positions of a byte's set bits, ascending
abbrev pub places_of : ℕ → List ℕ
places_of byte = set_of (word_bits byte 8)

-- eight positions below 8, of which the first are those of a byte's set bits
pub record IsPlacesRow (byte : ℕ) (row : List ℕ) : Type 0 where
  pub eight : length row ≡ 8
  pub small : All (λ place. place < 8) row
  pub front : take (count_ones byte) row ≡ places_of byte

-- a row for each of the first `count` bytes
pub record IsTable (count : ℕ) (places : List ℕ) : Type 0 where
  pub long : length places ≡ 8 * count
  pub row : (byte : ℕ) → byte < count → IsPlacesRow byte (take 8 (drop (8 * byte) places))
