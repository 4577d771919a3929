-- Offsets: numbers that cut a list into lists.
use Rattle.std.specs.Prelude.{◌≡◌, ℕ, ℤ, pos, int_le, nat_le, ◌+◌, ◌&&◌, Bool, true, false, List, [], ◌∷◌, map, Option, MatchOption, slice_range}
use Rattle.std.specs.List.{list_all}
use Rattle.vx_types.specs.PType.{number}
use Rattle.vx_types.specs.declared.ptype.PType.{PType}
use Rattle.vx_positions.specs.Positions.{position_of}

-- the numbers that records of an integer type spell
abbrev pub record_numbers : PType → List (List ℕ) → List ℤ
record_numbers p records = map (number p) records

-- none is below `low` or below the one before, and none is past n
abbrev pub ascend_within : ℤ → List ℤ → ℕ → Bool
ascend_within low [] n = true
ascend_within low (z ∷ zs) n = (int_le low z && int_le z (pos n)) && ascend_within z zs n

-- the position that a number is, where it is not below `low` and not past n
abbrev pub IsNextOffset : ℤ → ℕ → ℕ → Option ℕ → Type 0
IsNextOffset z low n r =
    MatchOption r
    ((int_le (pos low) z && int_le z (pos n)) ≡ false)
    (λ p. (pos p ≡ z) × ((int_le (pos low) z && int_le z (pos n)) ≡ true))

-- there is one; none is negative, below the one before, or past n
abbrev pub are_offsets : List ℤ → ℕ → Bool
are_offsets [] n = false
are_offsets (z ∷ zs) n = ascend_within (pos 0) (z ∷ zs) n

-- the positions that they are
abbrev pub offset_positions : List ℤ → List ℕ
offset_positions zs = map position_of zs

-- those that records of an integer type spell
abbrev pub record_positions : PType → List (List ℕ) → List ℕ
record_positions p records = offset_positions (record_numbers p records)

-- from each offset up to the next
abbrev pub spans : List ℕ → List (ℕ × ℕ)
spans [] = []
spans (a ∷ []) = []
spans (a ∷ b ∷ offsets) = (a, b) ∷ spans (b ∷ offsets)

-- the items of a span
abbrev pub items_in : {X : Type 0} → List X → ℕ × ℕ → List X
items_in items span = slice_range items span.0 span.1

-- the lists that offsets cut items into
abbrev pub lists_at : {X : Type 0} → List ℕ → List X → List (List X)
lists_at offsets items = map (items_in items) (spans offsets)

-- ---- offsets and sizes of views

abbrev pub is_natural : ℤ → Bool
is_natural z = int_le (pos 0) z

-- as many elements from an offset on are there
abbrev pub are_views : List ℕ → List ℕ → ℕ → Bool
are_views [] sizes n = true
are_views (o ∷ offsets) [] n = true
are_views (o ∷ offsets) (s ∷ sizes) n = nat_le (o + s) n && are_views offsets sizes n

-- numbers of records of an integer type, none of them negative
abbrev pub are_natural : PType → List (List ℕ) → Bool
are_natural p records = list_all is_natural (record_numbers p records)
