-- What JSON values mean as texts.
use Rattle.std.specs.Prelude.{ℕ, ◌+◌, pos, nat_le, List, [], ◌∷◌, map, length, if◌then◌else◌, Option, Some, None, codes, bytes_eq}
use Rattle.std.specs.List.{concat}
use Rattle.std.specs.Result.{result_ok}
use Rattle.serde_json.specs.Data.{Data}
use Rattle.serde_json.specs.Find.{as_str, as_array}
use Rattle.hex.specs.Hex.{decode_of}
use Rattle.vx_types.specs.PType.{record_of}
use Rattle.vx_types.specs.declared.text.TextKind.{TextKind}
use Rattle.vx_types.specs.declared.text.TextKind.TheVariants.{Utf8, Binary}
use Rattle.vx_json.specs.Meaning.{◌>>=◌}
use Rattle.vx_json.specs.Bools.{is_there}
use Rattle.vx_json.specs.Items.{each}
use Rattle.vx_json.specs.declared.texts.TheConstants.{GREATEST_OFFSET}

unfoldable pub text_kind_named : List ℕ → Option TextKind
text_kind_named s =
    if bytes_eq s (codes "utf8") then Some Utf8
    else (if bytes_eq s (codes "binary") then Some Binary else None)

-- the text itself, or the bytes that its hexadecimal digits spell
abbrev pub text_spelled : TextKind → List ℕ → Option (List ℕ)
text_spelled Utf8 s = Some s
text_spelled Binary s = result_ok (decode_of s)

-- hexadecimal digits of any number of bytes
unfoldable pub bytes_of : Data → Option (List ℕ)
bytes_of d = as_str d >>= text_spelled Binary

-- a text of that kind; `null` stands for an empty one
unfoldable pub text_or_empty : TextKind → Data → Option (List ℕ)
text_or_empty kind d = if is_there d then as_str d >>= text_spelled kind else Some []

-- a list of texts
unfoldable pub names_of : Data → Option (List (List ℕ))
names_of d = as_array d >>= each as_str

-- where each text ends, where the first begins at n
abbrev pub ends_from : ℕ → List (List ℕ) → List ℕ
ends_from n [] = []
ends_from n (x ∷ xs) = (n + length x) ∷ ends_from (n + length x) xs

-- an offset as a record of `i32`
abbrev pub offset_record : ℕ → List ℕ
offset_record n = record_of 4 (pos n)

-- where the first text begins, and where each ends
abbrev pub offset_records : List (List ℕ) → List (List ℕ)
offset_records texts = map offset_record (0 ∷ ends_from 0 texts)

-- offsets of `i32` and the texts one behind another, where the last offset is one
unfoldable pub strung : List (List ℕ) → Option (List (List ℕ) × List ℕ)
strung texts =
    if nat_le (length (concat texts)) GREATEST_OFFSET
    then Some (offset_records texts, concat texts)
    else None
