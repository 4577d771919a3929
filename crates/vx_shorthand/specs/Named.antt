-- Values by their names.
use Rattle.std.specs.Prelude.{ℕ, List, [], ◌∷◌, Option, Some, None, bytes_eq, if◌then◌else◌}

-- the first of the values whose name this is
abbrev pub first_named : {X : Type 0} → List ℕ → List (List ℕ) → List X → Option X
first_named name [] values = None
first_named name (n ∷ names) [] = None
first_named name (n ∷ names) (x ∷ values) =
    if bytes_eq n name then Some x else first_named name names values
