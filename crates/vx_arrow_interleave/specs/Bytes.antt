-- The bytes that rows of several sources are, by their places.
use Rattle.std.specs.Prelude.{ℕ, ◌+◌, ◌*◌, ◌<◌, ◌≤◌, ◌≡◌, ⊤, Bool, true, ◌&&◌, List, take, drop, length, nat_lt, Option, Some}
use Rattle.std.specs.List.{flat_map}
use Rattle.vx_arrow_image.specs.declared.format.Format.{Format}
use Rattle.vx_arrow_image.specs.declared.format.Format.TheVariants.{Bits, Fixed, Text, List as Lists, TextView, ListView, Union}
use Rattle.vx_arrow_image.specs.declared.format.Offsets.{Offsets}
use Rattle.vx_arrow_image.specs.Image.{Part, bit_of, ids_of, is_valid, offset_at}
use Rattle.vx_arrow_columns.specs.Picks.{bytes_for}
use Rattle.vx_arrow_interleave.specs.declared.writing.BitsOf.{BitsOf}
use Rattle.vx_arrow_interleave.specs.declared.writing.BitsOf.TheVariants.{Validity, Values}
use Rattle.vx_arrow_interleave.specs.Given.{items}
use Rattle.vx_arrow_interleave.specs.Sources.{part_at, shows_valid}
use Rattle.vx_arrow_interleave.specs.Spots.{Spot, spot_at}
use Rattle.vx_arrow_interleave.specs.TextViews.{AreViews}
use Rattle.vx_arrow_interleave.specs.Views.{AreSizes, AreStarts}

-- a bit for each row, and clear ones behind them in the last byte
pub record AreBits (f : Spot → Bool) (ss : List Spot) (out : List ℕ) : Type 0 where
  pub bits : (j : ℕ) → j < 8 * bytes_for (length ss)
      → bit_of out j ≡ (nat_lt j (length ss) && f (spot_at ss j))

-- bit i of a node's validity, or of its values
abbrev pub bit_by : BitsOf → Part → ℕ → Bool
bit_by Validity p i = is_valid p.valid i
bit_by Values p i = bit_of p.values i

-- the bit of the row at a place
abbrev pub bit_in : BitsOf → List Part → Spot → Bool
bit_in of ps s = bit_by of (part_at ps s.source) s.row

-- the bytes of the row at a place, so many
abbrev pub record_in : ℕ → List Part → Spot → List ℕ
record_in w ps s = take w (drop (s.row * w) (part_at ps s.source).values)

-- those of each row, one behind another
unfoldable pub records : ℕ → List Part → List Spot → List ℕ
records w ps ss = flat_map (record_in w ps) ss

-- each row has that many bytes
pub record HoldRecords (w : ℕ) (ps : List Part) (ss : List Spot) : Type 0 where
  pub source : (k : ℕ) → k < length ss → (spot_at ss k).source < length ps
  pub held : (k : ℕ) → k < length ss
      → (spot_at ss k).row * w + w ≤ length (part_at ps (spot_at ss k).source).values

-- the items of each row end where those of the rows before it and its own do
pub record AreOffsets (z : Offsets) (ps : List Part) (ss : List Spot) (out : List ℕ) : Type 0 where
  pub ends : (k : ℕ) → k ≤ length ss → offset_at z out k ≡ length (items z ps (take k ss))

abbrev pub AreOffsetsOf : Option Format → List Part → List Spot → List ℕ → Type 0
AreOffsetsOf (Some (Text z)) ps ss out = AreOffsets z ps ss out
AreOffsetsOf (Some (Lists z)) ps ss out = AreOffsets z ps ss out
AreOffsetsOf (Some (ListView z)) ps ss out = AreStarts z ps ss out
AreOffsetsOf f ps ss out = ⊤

abbrev pub AreValuesOf : Option Format → List Part → List Spot → List ℕ → Type 0
AreValuesOf (Some Bits) ps ss out = AreBits (bit_in Values ps) ss out
AreValuesOf (Some Fixed) ps ss out =
    take (length ss * (part_at ps 0).width) out ≡ records (part_at ps 0).width ps ss
AreValuesOf (Some (Text z)) ps ss out =
    take (length (items z ps ss)) out ≡ records 1 ps (items z ps ss)
AreValuesOf (Some TextView) ps ss out = AreViews ps ss out
AreValuesOf (Some Union) ps ss out = take (length ss) out ≡ records 1 ps ss
AreValuesOf f ps ss out = ⊤

abbrev pub AreSizesOf : Option Format → List Part → List Spot → List ℕ → Type 0
AreSizesOf (Some (ListView z)) ps ss out = AreSizes z ps ss out
AreSizesOf (Some Union) ps ss out = take (part_at ps 0).children out ≡ ids_of (part_at ps 0)
AreSizesOf f ps ss out = ⊤

-- lists begin with the bytes of the rows at places
pub record AreBytes (ps : List Part) (ss : List Spot) (v o x s : List ℕ) : Type 0 where
  pub valid : shows_valid ps ≡ true → AreBits (bit_in Validity ps) ss v
  pub offsets : AreOffsetsOf (part_at ps 0).format ps ss o
  pub values : AreValuesOf (part_at ps 0).format ps ss x
  pub sizes : AreSizesOf (part_at ps 0).format ps ss s
