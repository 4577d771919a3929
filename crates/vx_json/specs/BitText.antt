-- Texts of `0` and `1`, as bits.
use Rattle.std.specs.Prelude.{ℕ, ◌==◌, List, [], ◌∷◌, Bool, true, false, if◌then◌else◌, Option, Some, None}
use Rattle.vx_json.specs.Meaning.{◌>>=◌}

-- `0` is a clear bit, and `1` a set one
abbrev pub bit_named : ℕ → Option Bool
bit_named c = if c == 48 then Some false else (if c == 49 then Some true else None)

-- a text of `0` and `1`
unfoldable pub bits_in : List ℕ → Option (List Bool)
bits_in [] = Some []
bits_in (c ∷ cs) = do
  bit ← bit_named c
  bits ← bits_in cs
  Some (bit ∷ bits)
