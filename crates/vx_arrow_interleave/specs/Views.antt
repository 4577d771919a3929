-- What list views and dense unions have to hold, and which numbers are written for their rows.
use Rattle.std.specs.Prelude.{ℕ, ◌+◌, ◌*◌, ◌<◌, ◌≤◌, ◌≡◌, List, take, length, slice_index, if◌then◌else◌}
use Rattle.vx_arrow_image.specs.declared.format.Offsets.{Offsets}
use Rattle.vx_arrow_image.specs.declared.format.Offsets.TheVariants.{Short}
use Rattle.vx_arrow_image.specs.Image.{Part, child_of, ids_of, is_valid, offset_at, size_of}
use Rattle.vx_arrow_interleave.specs.Given.{dense_items, row_view_items, view_items}
use Rattle.vx_arrow_interleave.specs.Sources.{part_at}
use Rattle.vx_arrow_interleave.specs.Spots.{Spot, spot_at}

-- there is a number for each row where its items begin, or which row of its child it is
pub record HoldStarts (z : Offsets) (ps : List Part) (ss : List Spot) : Type 0 where
  pub held : (k : ℕ) → k < length ss → size_of z * ((spot_at ss k).row + 1)
      ≤ length (part_at ps (spot_at ss k).source).offsets

-- and one how many they are
pub record HoldSizes (z : Offsets) (ps : List Part) (ss : List Spot) : Type 0 where
  pub held : (k : ℕ) → k < length ss → size_of z * ((spot_at ss k).row + 1)
      ≤ length (part_at ps (spot_at ss k).source).sizes

-- how many items list view i has
abbrev pub view_size : Offsets → Part → ℕ → ℕ
view_size z p i = if is_valid p.valid i then offset_at z p.sizes i else 0

-- the items of each row begin where those of the rows before it end
pub record AreStarts (z : Offsets) (ps : List Part) (ss : List Spot) (out : List ℕ) : Type 0 where
  pub starts : (k : ℕ) → k < length ss
      → offset_at z out k ≡ length (view_items z ps (take k ss))

-- how many each row has
pub record AreSizes (z : Offsets) (ps : List Part) (ss : List Spot) (out : List ℕ) : Type 0 where
  pub sizes : (k : ℕ) → k < length ss
      → offset_at z out k ≡ length (row_view_items z ps (spot_at ss k))

-- which child a row of a dense union is a row of
abbrev pub child_in : List Part → Spot → ℕ
child_in ps s =
    child_of (ids_of (part_at ps s.source)) (slice_index (part_at ps s.source).values s.row)

-- each row is the one behind those of its child before it
pub record AreDenseStarts (ps : List Part) (ss : List Spot) (out : List ℕ) : Type 0 where
  pub starts : (k : ℕ) → k < length ss
      → offset_at Short out k ≡ length (dense_items ps (take k ss) (child_in ps (spot_at ss k)))
