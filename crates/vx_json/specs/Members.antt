-- The members that an object has.
use Rattle.std.specs.Prelude.{ℕ, ◌&&◌, ◌||◌, List, [], ◌∷◌, Bool, true, false, if◌then◌else◌, Option, Some, None, bytes_eq}
use Rattle.serde_json.specs.Data.{Data, Members, no_members, member}
use Rattle.serde_json.specs.Find.{as_object}

abbrev pub is_among : List (List ℕ) → List ℕ → Bool
is_among [] name = false
is_among (n ∷ names) name = bytes_eq name n || is_among names name

-- each member is one of these
abbrev pub are_among : List (List ℕ) → Members → Bool
are_among names no_members = true
are_among names (member k d ms) = is_among names k && are_among names ms

abbrev pub is_object_of : List (List ℕ) → Option Members → Bool
is_object_of names None = false
is_object_of names (Some ms) = are_among names ms

-- an object with no other members than these
unfoldable pub is_closed : List (List ℕ) → Data → Bool
is_closed names d = is_object_of names (as_object d)

-- such an object itself
unfoldable pub if_closed : List (List ℕ) → Data → Option Data
if_closed names d = if is_closed names d then Some d else None
