-- What the rooms hold after a take.
use Rattle.std.specs.Prelude.{ℕ, ◌<◌, ◌≡◌, true, false, List, [], ◌∷◌, ◌+◌, drop, length, slice_index_or, Option, Some, None, ⊤}
use Rattle.vx_arrow_image.specs.declared.image.Need.{Need}
use Rattle.vx_arrow_image.specs.declared.image.Room.{Room}
use Rattle.vx_arrow_image.specs.declared.refusal.Refusal.{Refusal}
use Rattle.vx_arrow_image.specs.declared.refusal.Refusal.TheVariants as refusals
use Rattle.vx_arrow_image.specs.Rows.{RowValue, picked}
use Rattle.vx_arrow_image.specs.Image.{Part, column_in, is_sound}
use Rattle.vx_arrow_columns.specs.Picks.{Picking, needs_of, pickings, is_union}
use Rattle.vx_arrow_columns.specs.Planned.{IsRead, are_trees, child_lens}
use Rattle.vx_arrow_columns.specs.Reached.{AreSoundAt, IsUncounted}
use Rattle.vx_arrow_columns.specs.Read.{rows_read}
use Rattle.vx_arrow_columns.specs.Taken.{AreFull, AreWithin, IsTaken}
use Rattle.vx_arrow_columns.specs.Written.{has_room, written}

-- each room is as large as its need
pub record HaveRoom (needs : List Need) (rooms : List Room) : Type 0 where
  pub room : (k : ℕ) (d : Need) (e : Room) → k < length rooms
      → has_room (slice_index_or needs k d) (slice_index_or rooms k e) ≡ true

-- room k is smaller than its need
pub record IsShort (needs : List Need) (rooms : List Room) (k : ℕ) : Type 0 where
  pub there : k < length rooms
  pub short : (d : Need) (e : Room)
      → has_room (slice_index_or needs k d) (slice_index_or rooms k e) ≡ false

-- each room has the rows of its node, which can be read
pub record AreTaken (parts : List Part) (q : Picking) (rooms : List Room) : Type 0 where
  pub tree : are_trees parts 1 ≡ true
  pub len : length (written parts q rooms) ≡ length parts
  pub taken : (k : ℕ) (d e : Part) (r : Picking) → k < length parts
      → IsTaken (slice_index_or parts k d) (slice_index_or (written parts q rooms) k e)
      (slice_index_or (pickings parts (q ∷ [])) k r)
  pub read : (k : ℕ) (d : Part) (r : Picking) → k < length parts
      → IsRead (slice_index_or parts k d) (slice_index_or (pickings parts (q ∷ [])) k r)
      (drop (k + 1) parts)

-- each node that is kept is sound over its children
pub record AreKeptSound (parts : List Part) (q : Picking) : Type 0 where
  pub sound : (k : ℕ) (d : Part) (r : Picking) → k < length parts
      → (slice_index_or (pickings parts (q ∷ [])) k r).kept ≡ true
      → is_sound (slice_index_or parts k d)
      (child_lens (slice_index_or parts k d) (drop (k + 1) parts)) ≡ true

-- the rooms read the rows at the picks of what the table's lists read, whatever its other rows are;
-- they mean these rows if what is kept is sound; where the table means a column, these are its rows
pub record MeansPicked (parts : List Part) (q : Picking) (rooms : List Room) : Type 0 where
  pub reach : AreWithin q.picks (length (rows_read parts))
  pub rows : rows_read (written parts q rooms) ≡ picked q.picks (rows_read parts)
  pub read : AreKeptSound parts q
      → column_in (written parts q rooms) ≡ Some (picked q.picks (rows_read parts))
  pub meant : (rows : List RowValue) → column_in parts ≡ Some rows → rows_read parts ≡ rows
  pub within : (rows : List RowValue) → column_in parts ≡ Some rows
      → AreWithin q.picks (length rows)
  pub picked : (rows : List RowValue) → column_in parts ≡ Some rows
      → column_in (written parts q rooms) ≡ Some (picked q.picks rows)

-- why no rows at picks are read, where the first node has n rows: `NoMeaning` comes only where some
-- node isn't sound at its picks, `Overflow` only where the rows of the node that is named can't be
-- counted, `Beyond` only where some pick is past the rows, and `NullPick` only where the column is
-- a union and some pick is null
abbrev pub IsPlanRefusal : List Part → Picking → ℕ → Refusal → Type 0
IsPlanRefusal parts q n (refusals.NoMeaning node lack) = AreSoundAt parts q → ⊥
IsPlanRefusal parts q n refusals.Beyond = AreWithin q.picks n → ⊥
IsPlanRefusal parts q n refusals.NullPick = (is_union parts ≡ true) × (AreFull q.picks → ⊥)
IsPlanRefusal parts q n (refusals.Room node) = ⊥
IsPlanRefusal parts q n (refusals.Overflow node) = IsUncounted parts q node
IsPlanRefusal parts q n refusals.NoMemory = ⊤

-- the same of a column, and what `Room` says of a node
abbrev pub IsRefusalBy : List Part → Picking → (ℕ → Type 0) → Refusal → Type 0
IsRefusalBy parts q short (refusals.NoMeaning node lack) = AreSoundAt parts q → ⊥
IsRefusalBy parts q short refusals.Beyond = AreWithin q.picks (length (rows_read parts)) → ⊥
IsRefusalBy parts q short refusals.NullPick = (is_union parts ≡ true) × (AreFull q.picks → ⊥)
IsRefusalBy parts q short (refusals.Room node) = short node
IsRefusalBy parts q short (refusals.Overflow node) = IsUncounted parts q node
IsRefusalBy parts q short refusals.NoMemory = ⊤

-- there are not as many needs or rooms as nodes, and no node is named, or the one that is has a
-- room that is smaller than its need
pub record IsRoomless (parts : List Part) (q : Picking) (needs : ℕ) (rooms : List Room) (node : ℕ)
    : Type 0 where
  pub count : (needs ≡ length parts → length rooms ≡ length parts → ⊥) → node ≡ length parts
  pub short : needs ≡ length parts → length rooms ≡ length parts
      → IsShort (needs_of parts q) rooms node

-- why nothing is taken
abbrev pub IsRefusal : List Part → Picking → ℕ → List Room → Refusal → Type 0
IsRefusal parts q needs rooms = IsRefusalBy parts q (IsRoomless parts q needs rooms)

-- the needs after a refusal: what the rows take where a room is too small, and else as they were
abbrev pub AreTold : List Part → Picking → List Need → List Need → ℕ → Refusal → Type 0
AreTold parts q old new rooms (refusals.NoMeaning node lack) = new ≡ old
AreTold parts q old new rooms refusals.Beyond = new ≡ old
AreTold parts q old new rooms refusals.NullPick = new ≡ old
AreTold parts q old new rooms (refusals.Room node) =
    (length old ≡ length parts → rooms ≡ length parts → new ≡ needs_of parts q)
    × ((length old ≡ length parts → rooms ≡ length parts → ⊥) → new ≡ old)
AreTold parts q old new rooms (refusals.Overflow node) = new ≡ old
AreTold parts q old new rooms refusals.NoMemory = new ≡ old

-- `NoMeaning` comes only where the table means no column
abbrev pub IsUnmeant : Option (List RowValue) → Refusal → Type 0
IsUnmeant column (refusals.NoMeaning node lack) = column ≡ None
IsUnmeant column refusals.Beyond = ⊤
IsUnmeant column refusals.NullPick = ⊤
IsUnmeant column (refusals.Room node) = ⊤
IsUnmeant column (refusals.Overflow node) = ⊤
IsUnmeant column refusals.NoMemory = ⊤
