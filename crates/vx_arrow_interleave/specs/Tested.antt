-- What the nodes at one place have to hold for rows of theirs.
use Rattle.std.specs.Prelude.{ℕ, ◌*◌, ◌^◌, ◌<◌, ◌≡◌, ⊤, true, false, List, length, Option, Some}
use Rattle.vx_arrow_image.specs.declared.format.Format.{Format}
use Rattle.vx_arrow_image.specs.declared.format.Format.TheVariants.{Nulls, Bits, Fixed, Text, Struct, List as Lists, FixedList, TextView, ListView, Union}
use Rattle.vx_arrow_image.specs.Image.{Part, has_child, holds_ids, ids_of, limit_of}
use Rattle.vx_arrow_interleave.specs.Bytes.{HoldRecords}
use Rattle.vx_arrow_interleave.specs.Cuts.{AreCut}
use Rattle.vx_arrow_interleave.specs.Given.{fixed_items, items, places, view_items}
use Rattle.vx_arrow_interleave.specs.Sources.{AreAlike, AreRows, part_at}
use Rattle.vx_arrow_interleave.specs.Spots.{Spot, spot_at}
use Rattle.vx_arrow_interleave.specs.TextViews.{ShowViews}
use Rattle.vx_arrow_interleave.specs.Views.{HoldSizes, HoldStarts}

-- the nodes are unions with the same ids, and each row has the id of a child
pub record AreTagged (ps : List Part) (ss : List Spot) : Type 0 where
  pub held : (s : ℕ) → s < length ps → holds_ids (part_at ps s) ≡ true
  pub ids : (s : ℕ) → s < length ps → ids_of (part_at ps s) ≡ ids_of (part_at ps 0)
  pub tagged : (k : ℕ) → k < length ss
      → has_child (part_at ps (spot_at ss k).source) (spot_at ss k).row ≡ true

-- the lists of nodes hold the rows at places, which can be counted
abbrev pub Holds : Option Format → List Part → List Spot → Type 0
Holds (Some Nulls) ps ss = (part_at ps 0).children ≡ 0
Holds (Some Bits) ps ss = (part_at ps 0).children ≡ 0
Holds (Some Fixed) ps ss =
    ((part_at ps 0).children ≡ 0)
    × (HoldRecords (part_at ps 0).width ps ss
    × (length ss * (part_at ps 0).width < 2 ^ 63))
Holds (Some (Text z)) ps ss =
    ((part_at ps 0).children ≡ 0)
    × (AreCut true z ps ss × (length (items z ps ss) < limit_of z))
Holds (Some Struct) ps ss = ⊤
Holds (Some (Lists z)) ps ss =
    ((part_at ps 0).children ≡ 1)
    × (AreCut false z ps ss × (length (items z ps ss) < limit_of z))
Holds (Some FixedList) ps ss =
    ((part_at ps 0).children ≡ 1)
    × (length (fixed_items (part_at ps 0).width ss) < 2 ^ 60)
Holds (Some TextView) ps ss = ShowViews (part_at ps 0).children ps ss
Holds (Some (ListView z)) ps ss =
    ((part_at ps 0).children ≡ 1)
    × (HoldStarts z ps ss × (HoldSizes z ps ss × (length (view_items z ps ss) < limit_of z)))
Holds (Some Union) ps ss = AreTagged ps ss
Holds f ps ss = ⊥

-- rows of nodes at one place can be read and counted, where their children can
pub record AreReadable (ps : List Part) (ss : List Spot) : Type 0 where
  pub alike : AreAlike ps
  pub rows : AreRows ps ss
  pub few : length ss < 2 ^ 60
  pub held : Holds (part_at ps 0).format ps (places ps ss)
