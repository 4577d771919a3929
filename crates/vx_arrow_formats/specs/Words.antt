-- The format strings without parameters.
use Rattle.std.specs.Prelude.{ℕ, List, Option, Some, None, codes, if◌then◌else◌}
use Rattle.std.specs.Str.{bytes_eq}
use Rattle.vx_arrow_formats.specs.declared.kind.Kind.{Kind}
use Rattle.vx_arrow_formats.specs.declared.kind.Kind.TheVariants.{Nulls, Bits, Unsigned, Signed, Fixed, Text, TextView, Struct, Map, List as Lists, ListView}
use Rattle.vx_arrow_image.specs.declared.format.Offsets.TheVariants.{Short, Long}

-- the kind that a word names
abbrev pub word_in : List ℕ → Option Kind
word_in text =
    if bytes_eq text (codes "n") then Some Nulls
    else if bytes_eq text (codes "b") then Some Bits
    else if bytes_eq text (codes "c") then Some (Signed 1)
    else if bytes_eq text (codes "C") then Some (Unsigned 1)
    else if bytes_eq text (codes "s") then Some (Signed 2)
    else if bytes_eq text (codes "S") then Some (Unsigned 2)
    else if bytes_eq text (codes "i") then Some (Signed 4)
    else if bytes_eq text (codes "I") then Some (Unsigned 4)
    else if bytes_eq text (codes "l") then Some (Signed 8)
    else if bytes_eq text (codes "L") then Some (Unsigned 8)
    else if bytes_eq text (codes "e") then Some (Fixed 2)
    else if bytes_eq text (codes "f") then Some (Fixed 4)
    else if bytes_eq text (codes "g") then Some (Fixed 8)
    else if bytes_eq text (codes "z") then Some (Text Short)
    else if bytes_eq text (codes "Z") then Some (Text Long)
    else if bytes_eq text (codes "vz") then Some TextView
    else if bytes_eq text (codes "u") then Some (Text Short)
    else if bytes_eq text (codes "U") then Some (Text Long)
    else if bytes_eq text (codes "vu") then Some TextView
    else if bytes_eq text (codes "tdD") then Some (Fixed 4)
    else if bytes_eq text (codes "tdm") then Some (Fixed 8)
    else if bytes_eq text (codes "tts") then Some (Fixed 4)
    else if bytes_eq text (codes "ttm") then Some (Fixed 4)
    else if bytes_eq text (codes "ttu") then Some (Fixed 8)
    else if bytes_eq text (codes "ttn") then Some (Fixed 8)
    else if bytes_eq text (codes "tDs") then Some (Fixed 8)
    else if bytes_eq text (codes "tDm") then Some (Fixed 8)
    else if bytes_eq text (codes "tDu") then Some (Fixed 8)
    else if bytes_eq text (codes "tDn") then Some (Fixed 8)
    else if bytes_eq text (codes "tiM") then Some (Fixed 4)
    else if bytes_eq text (codes "tiD") then Some (Fixed 8)
    else if bytes_eq text (codes "tin") then Some (Fixed 16)
    else if bytes_eq text (codes "+l") then Some (Lists Short)
    else if bytes_eq text (codes "+L") then Some (Lists Long)
    else if bytes_eq text (codes "+vl") then Some (ListView Short)
    else if bytes_eq text (codes "+vL") then Some (ListView Long)
    else if bytes_eq text (codes "+s") then Some Struct
    else if bytes_eq text (codes "+m") then Some Map
    else None
