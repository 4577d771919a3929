-- The bits that a builder holds.
use Rattle.std.specs.Prelude.{ℕ, ◌+◌, ◌*◌, ◌^◌, ◌<◌, ◌≤◌, Bool, List, ◌++◌, length}
use Rattle.vx_bits.specs.BitBuffer.{bits_of}
use Rattle.vx_bits.specs.Words.{word_bits}

-- the bits of the bytes, and behind them the lowest `held` bits of the next word
abbrev pub builder_bits : List ℕ → ℕ → ℕ → List Bool
builder_bits bytes next held = bits_of bytes 0 (8 * length bytes) ++ word_bits next held

-- the next word isn't full, holds no other bits, and with it the bits are at most `usize::MAX`
pub record IsBuilder (byte_count next held : ℕ) : Type 0 where
  pub open_word : held < 64
  pub clean : next < 2 ^ held
  pub counted : byte_count + 8 ≤ 2 ^ 61
