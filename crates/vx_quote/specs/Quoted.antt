-- Bytes as a text shows them: between quotes, and as hexadecimal digits.
use Rattle.std.specs.Prelude.{ℕ, ◌==◌, ◌&&◌, nat_le, not, Bool, List, [], ◌∷◌, ◌++◌}
use Rattle.std.specs.Prelude.{codes, flat_map, if◌then◌else◌}
use Rattle.hex.specs.Hex.{encode_lower}

-- bytes in stored order, each as two digits
abbrev pub hex_text : List ℕ → List ℕ
hex_text b = codes "0x" ++ encode_lower b

-- a byte that stands for itself between quotes: a printed one of ASCII, other than `"` and `\`
abbrev pub is_plain : ℕ → Bool
is_plain b = nat_le 32 b && nat_le b 126 && not (b == 34) && not (b == 92)

-- every other byte is `\x` and two digits
abbrev pub quoted_byte : ℕ → List ℕ
quoted_byte b = if is_plain b then b ∷ [] else codes "\\x" ++ encode_lower (b ∷ [])

-- bytes between quotes
abbrev pub quoted_text : List ℕ → List ℕ
quoted_text b = codes "\"" ++ flat_map quoted_byte b ++ codes "\""
