-- Items of several lists, in any order.
use Rattle.std.specs.Prelude.{ℕ, ◌<◌, List, [], length, map, Option, None, Some, IfSome, slice_index_or}
use Rattle.std.specs.List.{All, flat_map, range_with_len}
use Rattle.vx_interleave.specs.declared.place.Place.{Place}

-- list k; none past the last one
abbrev pub list_of : {X : Type 0} → List (List X) → ℕ → List X
list_of lists k = slice_index_or lists k []

-- lists, one behind another
abbrev pub joined : {X : Type 0} → List (List X) → List X
joined lists = flat_map (λ items. items) lists

-- the places of the first n items of list k
abbrev pub places_of : ℕ → ℕ → List (Option Place)
places_of k n = map (λ (i : ℕ). Some (record { column = k; row = i })) (range_with_len 0 n)

-- the item at a place; `missing` where there is no place
abbrev pub placed : {X : Type 0} → X → List (List X) → Option Place → X
placed missing lists None = missing
placed missing lists (Some place) = slice_index_or (list_of lists place.column) place.row missing

-- the items at places, in order
abbrev pub interleaved : {X : Type 0} → X → List (List X) → List (Option Place) → List X
interleaved missing lists order = map (placed missing lists) order

-- a place is one of an item
abbrev pub IsPlaceIn : {X : Type 0} → List (List X) → Place → Type 0
IsPlaceIn lists place =
    (place.column < length lists) × (place.row < length (list_of lists place.column))

-- each place is, where there is one
abbrev pub ArePlaces : {X : Type 0} → List (List X) → List (Option Place) → Type 0
ArePlaces lists order = All (λ place. IfSome place (IsPlaceIn lists)) order
