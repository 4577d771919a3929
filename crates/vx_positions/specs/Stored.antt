-- The numbers that stored records spell.
use Rattle.std.specs.Prelude.{ℕ, ℤ, List, [], ◌∷◌, map, Bool, Option, Some, None, if◌then◌else◌}
use Rattle.vx_types.specs.PType.{number}
use Rattle.vx_types.specs.declared.ptype.PType.{PType}

abbrev pub number_of : PType → List ℕ → Option ℤ
number_of p bytes = Some (number p bytes)

-- of records that are all there
abbrev pub present_numbers : PType → List (List ℕ) → List (Option ℤ)
present_numbers p records = map (number_of p) records

-- of records that are valid where a bit is set
abbrev pub shown_numbers : PType → List Bool → List (List ℕ) → List (Option ℤ)
shown_numbers p [] records = []
shown_numbers p (b ∷ bits) [] = []
shown_numbers p (b ∷ bits) (r ∷ records) =
    (if b then number_of p r else None) ∷ shown_numbers p bits records
