-- Calls that are kept, and values in whole chunks.
use Rattle.std.specs.Prelude.{◌*◌, ◌/◌, ◌-◌, ◌^◌, min, List, [], Option, Some, None, take, length}

-- the items of a list that may be there, and none where it is not
abbrev pub items_in : {X : Type 0} → Option (List X) → List X
items_in None = []
items_in (Some items) = items

-- the whole chunks of a list, as far as a `usize` counts them: all of it where it has whole chunks
-- alone, and no more values than that
abbrev pub whole_chunks : {X : Type 0} → List X → List X
whole_chunks values = take (min (length values) (2 ^ 64 - 1) / 1024 * 1024) values
