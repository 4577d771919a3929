-- The words of a list of bits: 64 bits to a word, the first one lowest.
use Rattle.std.specs.Prelude.{ℕ, zero, suc, ◌*◌, ◌/◌, ◌%◌, Bool, List, [], ◌∷◌, ◌==◌, take, drop}
use Rattle.std.specs.Int.{div_ceil}
use Rattle.vx_bits.specs.BitBuffer.{number_of}

-- word i: its bit k is bit `64 * i + k`, and zero past the end
unfoldable pub word_at : List Bool → ℕ → ℕ
word_at bits i = number_of (take 64 (drop (64 * i) bits))

-- the lowest n bits of a word, lowest first
unfoldable pub word_bits : ℕ → ℕ → List Bool
word_bits word zero = []
word_bits word (suc n) = (word % 2 == 1) ∷ word_bits (word / 2) n

-- how many words hold a bit of so many bits
abbrev pub word_count : ℕ → ℕ
word_count len = div_ceil len 64
