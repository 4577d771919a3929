-- A column of one node, whose values have a fixed width and no nulls, and a room with its rows.
use Rattle.std.specs.Prelude.{◌≡◌, ℕ, ◌+◌, ◌*◌, ◌^◌, ◌<◌, ◌≤◌, ◌||◌, ◌==◌, Bool, true, List, [], ◌∷◌, length, Some}
use Rattle.vx_arrow.specs.Answer.{AreMeant}
use Rattle.vx_arrow.specs.Image.{StepParts}
use Rattle.vx_arrow.specs.Known.{IsAlone, is_known, places_of}
use Rattle.vx_arrow.specs.declared.known.KnownPicks.{KnownPicks}
use Rattle.vx_arrow_image.specs.declared.format.Format.TheVariants.{Fixed}
use Rattle.vx_arrow_image.specs.declared.image.Node.{Node}
use Rattle.vx_arrow_image.specs.declared.image.Room.{Room}
use Rattle.vx_arrow_image.specs.Image.{Part, part_of}
use Rattle.vx_fixed.specs.Rows.{AreWritten}

-- the widths that are served
abbrev pub is_width : ℕ → Bool
is_width w = (w == 1) || ((w == 2) || ((w == 4) || ((w == 8) || ((w == 16) || (w == 32)))))

-- the rows have values of such a width, and none is null
pub record HasValues (p : Part) : Type 0 where
  pub format : p.format ≡ Some Fixed
  pub bare : p.valid ≡ []
  pub leaf : p.children ≡ 0
  pub few : p.offset + p.len < 2 ^ 60
  pub width : is_width p.width ≡ true
  pub values : (p.offset + p.len) * p.width ≤ length p.values

-- a room has space for the rows at places, which can be counted
pub record HasRoomFor (p : Part) (places : List ℕ) (r : Room) : Type 0 where
  pub few : length places < 2 ^ 60
  pub small : length places * p.width < 2 ^ 63
  pub room : length places * p.width ≤ length r.values.now

-- the values are those of the rows that the step picks, and all else in the room is as it was
pub record IsFilled (nodes : List Node) (steps : List StepParts) (old new : Room) : Type 0 where
  pub node : Node
  pub picks : KnownPicks
  pub only : nodes ≡ node ∷ []
  pub alone : IsAlone node.len steps picks
  pub rows : AreWritten node.width node.values.now node.offset (places_of picks)
      old.values.now new.values.now
  pub valid : new.valid ≡ old.valid
  pub offsets : new.offsets ≡ old.offsets
  pub sizes : new.sizes ≡ old.sizes

-- the column is one node with values, the picks of the only step are known, and there is room for
-- them
pub record IsServed (nodes : List Node) (steps : List StepParts) (room : Room) : Type 0 where
  pub node : Node
  pub step : StepParts
  pub one : nodes ≡ node ∷ []
  pub only : steps ≡ step ∷ []
  pub values : HasValues (part_of node)
  pub meant : AreMeant steps
  pub known : is_known node.len step ≡ true
  pub space : (picks : KnownPicks) → IsAlone node.len steps picks
      → HasRoomFor (part_of node) (places_of picks) room
