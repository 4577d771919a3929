-- The places of set bits, word by word.
use Rattle.std.proofs.Common.{◌≡◌, ℕ, ◌*◌, ◌<◌, ◌≤◌, Bool, List, length}
use Rattle.std.specs.List.{All}
use Rattle.vx_bits.specs.Words.{word_at, word_bits}
use Rattle.vx_mask.specs.Positions.{positions}
use Rattle.vx_mask.proofs.MarkedBits.{word_within_bits}
use Rattle.vx_filter.proofs.Picks.{ascending_below}

-- the places of a word lie within the items
pub places_in : (bits : List Bool) (w word len : ℕ) → 64 * w ≤ length bits → length bits ≡ len → word ≡ word_at bits w → All (λ p. p < len) (positions (64 * w) (word_bits word 64))
places_in bits w word len h same e = ascending_below (64 * w) len (positions (64 * w) (word_bits word 64)) (word_within_bits bits w word len h same e)
