-- What JSON values mean as views of texts.
use Rattle.std.specs.Prelude.{ℕ, ◌+◌, ◌++◌, nat_le, List, [], ◌∷◌, length, if◌then◌else◌, Option, Some, None, codes}
use Rattle.std.specs.Result.{result_ok}
use Rattle.serde_json.specs.Data.{Data}
use Rattle.serde_json.specs.Find.{get, as_str}
use Rattle.hex.specs.Hex.{decode_of}
use Rattle.vx_types.specs.Text.{view_of}
use Rattle.vx_types.specs.declared.text.BinaryView.{BinaryView}
use Rattle.vx_types.specs.declared.text.BinaryView.TheVariants.{Ref}
use Rattle.vx_json.specs.Meaning.{◌>>=◌}
use Rattle.vx_json.specs.Members.{is_closed}
use Rattle.vx_json.specs.Values.{hex_record}
use Rattle.vx_json.specs.Wholes.{at_most}
use Rattle.vx_json.specs.declared.views.TheConstants.{GREATEST_U32}

-- ---- listed

-- digits of at most twelve bytes
unfoldable pub inlined_bytes : List ℕ → Option (List ℕ)
inlined_bytes digits = if nat_le (length digits) 24 then result_ok (decode_of digits) else None

-- a text in the view itself
unfoldable pub inline_view : Data → Option BinaryView
inline_view d = do
  text ← get (codes "inline") d >>= as_str >>= inlined_bytes
  Some (view_of text 0 0)

-- a text that stands elsewhere
unfoldable pub ref_view : Data → Option BinaryView
ref_view d = do
  len ← get (codes "len") d >>= at_most GREATEST_U32
  prefix ← get (codes "prefix") d >>= hex_record 4
  buffer ← get (codes "buffer") d >>= at_most GREATEST_U32
  offset ← get (codes "offset") d >>= at_most GREATEST_U32
  Some (Ref len prefix buffer offset)

unfoldable pub view_in : Data → Option BinaryView
view_in d =
    if is_closed (codes "inline" ∷ []) d then inline_view d
    else if is_closed (codes "len" ∷ codes "prefix" ∷ codes "buffer" ∷ codes "offset" ∷ []) d
    then ref_view d
    else None

-- ---- of texts

-- what of a text stands in a buffer: nothing, where its view has it
abbrev pub outside : List ℕ → List ℕ
outside x = if nat_le (length x) 12 then [] else x

-- the buffer of these texts
abbrev pub all_outside : List (List ℕ) → List ℕ
all_outside [] = []
all_outside (x ∷ xs) = outside x ++ all_outside xs

-- a view of each text, the first of which stands at n in buffer 0 if it stands there
abbrev pub views_from : ℕ → List (List ℕ) → List BinaryView
views_from n [] = []
views_from n (x ∷ xs) = view_of x 0 n ∷ views_from (n + length (outside x)) xs

-- a view of each text and the bytes of buffer 0, where these are as few as a view can tell
unfoldable pub views_and_buffer : List (List ℕ) → Option (List BinaryView × List ℕ)
views_and_buffer texts =
    if nat_le (length (all_outside texts)) GREATEST_U32
    then Some (views_from 0 texts, all_outside texts)
    else None
