-- Lists of bits, an item a bit, and which items of a list are valid.
use Rattle.std.specs.Prelude.{◌||◌, List, [], ◌∷◌, Bool, false, not, is_none, if◌then◌else◌, Option, Some, None}
use Rattle.serde_json.specs.Data.{Data, Items, no_items, item}
use Rattle.serde_json.specs.Find.{as_null, as_bool}

-- it isn't `null`
abbrev pub is_there : Data → Bool
is_there d = is_none (as_null d)

-- `true` or `false`; `null` stands for a clear bit
unfoldable pub bool_or_clear : Data → Option Bool
bool_or_clear d = if is_there d then as_bool d else Some false

-- for each item whether it is valid
abbrev pub presence : Items → List Bool
presence no_items = []
presence (item d ds) = is_there d ∷ presence ds

abbrev pub has_null : Items → Bool
has_null no_items = false
has_null (item d ds) = not (is_there d) || has_null ds

-- which items are valid, where one is null
abbrev pub presence_of : Items → Option (List Bool)
presence_of ds = if has_null ds then Some (presence ds) else None
