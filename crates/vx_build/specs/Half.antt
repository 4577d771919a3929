-- Floats of 16 bits.
use Rattle.std.specs.Prelude.{ℕ, ◌%◌, nat_lt, if◌then◌else◌}

-- the bits of a float of 16 bits; every NaN is the quiet one whose sign is clear
abbrev pub half_bits : ℕ → ℕ
half_bits bits = if nat_lt 0x7c00 (bits % 0x8000) then 0x7e00 else bits
