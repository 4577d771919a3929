-- What is written to the caller's rooms.
use Rattle.std.specs.Prelude.{◌≡◌, ◌≢◌, ℕ, ◌<◌, Bool, ◌&&◌, true, nat_le, length, List, Some, [], ◌∷◌, if◌then◌else◌, is_some, slice_index_or}
use Rattle.vx_arrow_image.specs.declared.format.Format.{Format}
use Rattle.vx_arrow_image.specs.declared.format.Offsets.{Offsets}
use Rattle.vx_arrow_image.specs.declared.image.Need as needed
use Rattle.vx_arrow_image.specs.declared.image.Node as image
use Rattle.vx_arrow_image.specs.declared.image.Room as rooms
use Rattle.vx_arrow_image.specs.Image.{Part, bit_of, format_in, offset_at, part_of}
use Rattle.vx_arrow_columns.specs.declared.places.Picks as places
use Rattle.vx_arrow_columns.specs.Asked.{the_picks}
use Rattle.vx_arrow_columns.specs.Bytes.{AreBitsOf}
use Rattle.vx_arrow_columns.specs.Picks.{Picking, shows_valid, pickings}
use Rattle.vx_arrow_columns.specs.Taken.{IsReadable, IsTaken, ShowsRows}

-- bit j is this one, and the others are as they were
pub record PutsBit (old new : List ℕ) (j : ℕ) (bit : Bool) : Type 0 where
  pub put : bit_of new j ≡ bit
  pub others : (i : ℕ) → i ≢ j → bit_of new i ≡ bit_of old i

-- offset j is this one, and those before it are as they were
pub record PutsOffset (z : Offsets) (old new : List ℕ) (j value : ℕ) : Type 0 where
  pub put : offset_at z new j ≡ value
  pub before : (i : ℕ) → i < j → offset_at z new i ≡ offset_at z old i

-- a node of the same format over other lists, as many rows as picks
abbrev pub new_part : Part → Picking → List ℕ → List ℕ → List ℕ → List ℕ → Part
new_part p q valid offsets values sizes =
    record {
      format = p.format;
      width = p.width;
      len = length q.picks;
      offset = 0;
      children = p.children;
      valid = valid;
      offsets = offsets;
      values = values;
      sizes = sizes;
    }

-- and over those of a room
abbrev pub own_part : Part → Picking → rooms.Room → Part
own_part p q r =
    new_part p q (if shows_valid p q then r.valid.now else []) r.offsets.now r.values.now
    r.sizes.now

-- a node that is kept is the source's
abbrev pub written_part : Part → Picking → rooms.Room → Part
written_part p q r = if q.kept then p else own_part p q r

abbrev pub written_by : List Part → List Picking → List rooms.Room → List Part
written_by [] qs rs = []
written_by (p ∷ ps) [] rs = []
written_by (p ∷ ps) (q ∷ qs) [] = []
written_by (p ∷ ps) (q ∷ qs) (r ∷ rs) = written_part p q r ∷ written_by ps qs rs

-- the table that the rooms hold, at picks of the one column
abbrev pub written : List Part → Picking → List rooms.Room → List Part
written ps q rs = written_by ps (pickings ps (q ∷ [])) rs

-- a room is as large as the need
abbrev pub has_room : needed.Need → rooms.Room → Bool
has_room n r =
    nat_le n.valid (length r.valid.now)
    && (nat_le n.offsets (length r.offsets.now)
    && (nat_le n.values (length r.values.now) && nat_le n.sizes (length r.sizes.now)))

-- each list of a room lies where it lay in the caller's memory
pub record KeepsLists (old new : rooms.Room) : Type 0 where
  pub valid : new.valid.ghost_name ≡ old.valid.ghost_name
  pub offsets : new.offsets.ghost_name ≡ old.offsets.ghost_name
  pub values : new.values.ghost_name ≡ old.values.ghost_name
  pub sizes : new.sizes.ghost_name ≡ old.sizes.ghost_name

-- each list of each room does
pub record KeepLists (old new : List rooms.Room) : Type 0 where
  pub many : length new ≡ length old
  pub each : (k : ℕ) (d : rooms.Room)
      → KeepsLists (slice_index_or old k d) (slice_index_or new k d)

-- validity says which rows are there, bit by bit where it is written; else there is none
pub record HasValid (p : Part) (q : Picking) (v : List ℕ) : Type 0 where
  pub shows : ShowsRows p q.picks v
  pub bits : shows_valid p q ≡ true → AreBitsOf is_some p q.picks v

-- the rows of a node of this format at picks can be read
pub record IsWritable (f : Format) (n : image.Node) (q : places.Picks) : Type 0 where
  pub format : format_in n.format ≡ Some f
  pub readable : IsReadable (part_of n) (the_picks q)

-- the room has the rows of a node as they are taken
abbrev pub IsRoomTaken : Part → Picking → rooms.Room → Type 0
IsRoomTaken p q room = IsTaken p (written_part p q room) q
