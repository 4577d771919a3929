-- What rooms hold, and why rows aren't joined.
use Rattle.std.specs.Prelude.{ℕ, ◌≡◌, ◌<◌, ⊤, List, [], ◌∷◌, length, slice_index_or}
use Rattle.vx_arrow_image.specs.declared.image.Need as needed
use Rattle.vx_arrow_image.specs.declared.image.Room as rooms
use Rattle.vx_arrow_image.specs.Image.{Part}
use Rattle.vx_arrow_columns.specs.Answer.{IsShort}
use Rattle.vx_arrow_columns.specs.Bytes.{KeepsPast}
use Rattle.vx_arrow_interleave.specs.declared.faults.Refused.{Refused}
use Rattle.vx_arrow_interleave.specs.declared.faults.Refused.TheVariants as why
use Rattle.vx_arrow_interleave.specs.declared.planning.Job as job_type
use Rattle.vx_arrow_interleave.specs.Bytes.{AreBytes}
use Rattle.vx_arrow_interleave.specs.Given.{given, need_of, needs_of, places}
use Rattle.vx_arrow_interleave.specs.Planned.{given_by, items_by}
use Rattle.vx_arrow_interleave.specs.Sources.{part_at}
use Rattle.vx_arrow_interleave.specs.Spots.{Spot, spots}
use Rattle.vx_arrow_interleave.specs.Tested.{AreReadable}
use Rattle.vx_arrow_interleave.specs.TextViews.{ViewsOf}

-- the rows of a job can be read, and are by their places
pub record IsWritable (ps : List Part) (job : job_type.Job) : Type 0 where
  pub readable : AreReadable ps (given_by job)
  pub rows : spots job.rows.items ≡ places ps (given_by job)
  pub items : spots job.items.items ≡ items_by (part_at ps 0).format ps (places ps (given_by job))
  pub views : ViewsOf (part_at ps 0).format ps (places ps (given_by job)) job.views.items

-- a room has the bytes of rows, and no others changed
pub record HasBytes (ps : List Part) (ss : List Spot) (old new : rooms.Room) : Type 0 where
  pub rows : AreBytes ps (places ps ss) new.valid.now new.offsets.now new.values.now new.sizes.now
  pub valid : KeepsPast (need_of ps ss).valid old.valid.now new.valid.now
  pub offsets : KeepsPast (need_of ps ss).offsets old.offsets.now new.offsets.now
  pub values : KeepsPast (need_of ps ss).values old.values.now new.values.now
  pub sizes : KeepsPast (need_of ps ss).sizes old.sizes.now new.sizes.now

-- each room has those of its nodes' rows
pub record HaveBytes (gs : List (List Part)) (ss : List Spot) (old new : List rooms.Room)
    : Type 0 where
  pub bytes : (k : ℕ) (e : rooms.Room) → k < length gs
      → HasBytes (slice_index_or gs k []) (slice_index_or (given gs (ss ∷ [])) k [])
      (slice_index_or old k e) (slice_index_or new k e)

-- there are not as many needs or rooms as nodes, and none is named, or the one that is has a room
-- that is smaller than its need
pub record IsRoomless (gs : List (List Part)) (ss : List Spot) (needs : ℕ)
    (rooms : List rooms.Room) (node : ℕ) : Type 0 where
  pub count : (needs ≡ length gs → length rooms ≡ length gs → ⊥) → node ≡ length gs
  pub short : needs ≡ length gs → length rooms ≡ length gs → IsShort (needs_of gs ss) rooms node

-- why rows aren't joined
abbrev pub IsRefusal : List (List Part) → List Spot → ℕ → List rooms.Room → Refused → Type 0
IsRefusal gs ss needs rooms (why.Room node) = IsRoomless gs ss needs rooms node
IsRefusal gs ss needs rooms r = ⊤

-- the needs after a refusal: what the rows take where a room is too small, and else as they were
abbrev pub AreTold : List (List Part) → List Spot → List needed.Need → List needed.Need → ℕ
    → Refused → Type 0
AreTold gs ss old new rooms (why.Room node) =
    (length old ≡ length gs → rooms ≡ length gs → new ≡ needs_of gs ss)
    × ((length old ≡ length gs → rooms ≡ length gs → ⊥) → new ≡ old)
AreTold gs ss old new rooms r = new ≡ old
