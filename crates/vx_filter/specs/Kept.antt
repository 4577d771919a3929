-- What a filter keeps.
use Rattle.std.specs.Prelude.{◌≡◌, Bool, List, Some, length, map, slice_get}
use Rattle.std.specs.List.{items_where_true}
use Rattle.vx_mask.specs.Positions.{set_of}

-- the items where the bits are set are those at the set positions
abbrev pub IsListAtTheSet : {X : Type 0} → List Bool → List X → Type 0
IsListAtTheSet bits items =
    length bits ≡ length items
    → map Some (items_where_true bits items) ≡ map (slice_get items) (set_of bits)
