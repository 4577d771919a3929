-- Numbers, of which some may be missing, as positions.
use Rattle.std.specs.Prelude.{◌≡◌, ℕ, ℤ, pos, negsuc, nat_lt, List, [], ◌∷◌, map, Bool, true, false, Option, Some, None, is_some, if◌then◌else◌}
use Rattle.std.specs.List.{list_all}
use Rattle.std.specs.Option.{option_map, option_or}

-- a number is one of n positions
abbrev pub is_position : ℕ → ℤ → Bool
is_position n (pos i) = nat_lt i n
is_position n (negsuc i) = false

-- a number that is none of n positions; a missing one is no number
abbrev pub bad_number : ℕ → Option ℤ → Option ℤ
bad_number n None = None
bad_number n (Some z) = if is_position n z then None else Some z

-- the first such number
abbrev pub first_bad : ℕ → List (Option ℤ) → Option ℤ
first_bad n [] = None
first_bad n (x ∷ numbers) = option_or (bad_number n x) (first_bad n numbers)

-- the position that a number names
abbrev pub position_of : ℤ → ℕ
position_of (pos i) = i
position_of (negsuc i) = 0

-- the positions that numbers name, none where one is missing
abbrev pub positions_of : List (Option ℤ) → List (Option ℕ)
positions_of numbers = map (option_map position_of) numbers

-- none of them is a null
abbrev pub AllThere : List (Option ℕ) → Type 0
AllThere picks = list_all is_some picks ≡ true
