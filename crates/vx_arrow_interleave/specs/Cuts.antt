-- Where the items of rows stand.
use Rattle.std.specs.Prelude.{ℕ, ◌+◌, ◌<◌, ◌≤◌, ◌≡◌, Bool, true, List, length, if◌then◌else◌}
use Rattle.vx_arrow_image.specs.declared.format.Offsets.{Offsets}
use Rattle.vx_arrow_image.specs.Image.{Part, holds_offsets, is_cut, limit_of, offset_at}
use Rattle.vx_arrow_interleave.specs.Sources.{is_there, part_at}
use Rattle.vx_arrow_interleave.specs.Spots.{Spot, spot_at}

-- how many bytes a node's texts are cut from; the items of lists are counted at their child
abbrev pub room_of : Bool → Offsets → Part → ℕ
room_of texts z p = if texts then length p.values else limit_of z

-- the items of the rows at places, where these are there, stand in order
pub record AreCut (texts : Bool) (z : Offsets) (ps : List Part) (ss : List Spot) : Type 0 where
  pub held : (k : ℕ) → k < length ss
      → holds_offsets z (part_at ps (spot_at ss k).source) ≡ true
  pub cut : (k : ℕ) → k < length ss → is_there ps (spot_at ss k) ≡ true
      → is_cut z (part_at ps (spot_at ss k).source)
      (room_of texts z (part_at ps (spot_at ss k).source)) (spot_at ss k).row ≡ true

-- they stand in order
pub record AreOrdered (z : Offsets) (ps : List Part) (ss : List Spot) : Type 0 where
  pub held : (k : ℕ) → k < length ss
      → holds_offsets z (part_at ps (spot_at ss k).source) ≡ true
  pub ordered : (k : ℕ) → k < length ss → is_there ps (spot_at ss k) ≡ true
      → offset_at z (part_at ps (spot_at ss k).source).offsets (spot_at ss k).row
      ≤ offset_at z (part_at ps (spot_at ss k).source).offsets ((spot_at ss k).row + 1)
