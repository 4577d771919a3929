-- The type ids that the format of a union lists.
use Rattle.std.specs.Prelude.{ℕ, ◌&&◌, not, List, [], ◌∷◌, ◌++◌, length, ◌==◌, nat_lt, if◌then◌else◌, Bool, Option, Some, None}
use Rattle.std.specs.List.{list_any}
use Rattle.std.specs.Option.{option_and_then}
use Rattle.vx_arrow_formats.specs.Numbers.{number_in, fields_in}

-- an id that may follow these: from 0 to 127, and none of them
abbrev pub may_follow : List ℕ → ℕ → Bool
may_follow ids id =
    nat_lt id 128 && (nat_lt (length ids) 128 && not (list_any (λ x. x == id) ids))

-- these ids, and those of the fields that follow
abbrev pub with_fields : List ℕ → List (List ℕ) → Option (List ℕ)
with_fields ids [] = Some ids
with_fields ids (f ∷ fs) =
    option_and_then (λ id. if may_follow ids id then with_fields (ids ++ id ∷ []) fs else None)
    (number_in f)

-- the ids of a union's children, each once, with a comma between two; the empty text lists none
abbrev pub ids_in : List ℕ → Option (List ℕ)
ids_in [] = Some []
ids_in (b ∷ bs) = with_fields [] (fields_in (b ∷ bs))
