-- The bytes that a take writes.
use Rattle.std.specs.Prelude.{ℕ, ◌*◌, ◌<◌, ◌≡◌, ⊤, Bool, true, false, ◌&&◌, List, [], ◌∷◌, take, drop, length, nat_lt, replicate, slice_index_or, Option, Some, None, is_some}
use Rattle.vx_arrow_image.specs.declared.format.Format.{Format}
use Rattle.vx_arrow_image.specs.declared.format.Format.TheVariants.{Bits, Fixed, Text, List as Lists, TextView, ListView, Union, DenseUnion}
use Rattle.vx_arrow_image.specs.declared.image.Room as rooms
use Rattle.vx_arrow_image.specs.Image.{Part, bit_of, ids_of, size_of}
use Rattle.vx_arrow_columns.specs.Picks.{Picking, bytes_for, items_len, need_of, pickings, place_of, shows_valid}
use Rattle.vx_arrow_columns.specs.Taken.{AreDense, AreOffsets, AreTagged, bit_in, texts_of}

-- a bit for each row at picks, and clear ones behind them in the last byte
pub record AreBitsOf (f : Option ℕ → Bool) (p : Part) (q : List (Option ℕ)) (out : List ℕ)
    : Type 0 where
  pub bits : (j : ℕ) → j < 8 * bytes_for (length q)
      → bit_of out j ≡ (nat_lt j (length q) && f (place_of p (slice_index_or q j None)))

-- w bytes of the source for a row that is there, and else as many zeros
abbrev pub row_in : ℕ → List ℕ → Option ℕ → List ℕ
row_in w src None = replicate w 0
row_in w src (Some i) = take w (drop (i * w) src)

-- those of each row at picks, one behind another
pub record AreBytesOf (w : ℕ) (src : List ℕ) (p : Part) (q : List (Option ℕ)) (out : List ℕ)
    : Type 0 where
  pub rows : (k : ℕ) → k < length q
      → take w (drop (k * w) out) ≡ row_in w src (place_of p (slice_index_or q k None))

-- the offsets of the rows at picks, where the format has some
abbrev pub AreOffsetsOf : Option Format → Part → List (Option ℕ) → List ℕ → Type 0
AreOffsetsOf (Some (Text z)) p q out = AreOffsets z p q (length q) out
AreOffsetsOf (Some (Lists z)) p q out = AreOffsets z p q (length q) out
AreOffsetsOf (Some (ListView z)) p q out = AreBytesOf (size_of z) p.offsets p q out
AreOffsetsOf (Some DenseUnion) p q out = AreDense p q (length q) out
AreOffsetsOf f p q out = ⊤

-- their values
abbrev pub AreValuesOf : Option Format → Part → List (Option ℕ) → List ℕ → Type 0
AreValuesOf (Some Bits) p q out = AreBitsOf (bit_in p.values) p q out
AreValuesOf (Some Fixed) p q out = AreBytesOf p.width p.values p q out
AreValuesOf (Some (Text z)) p q out = take (items_len z p q) out ≡ texts_of z p q
AreValuesOf (Some TextView) p q out = AreBytesOf 16 p.values p q out
AreValuesOf (Some Union) p q out = AreTagged p q (length q) out
AreValuesOf (Some DenseUnion) p q out = AreTagged p q (length q) out
AreValuesOf f p q out = ⊤

-- and their sizes; of a union the ids of its children
abbrev pub AreSizesOf : Option Format → Part → List (Option ℕ) → List ℕ → Type 0
AreSizesOf (Some (ListView z)) p q out = AreBytesOf (size_of z) p.sizes p q out
AreSizesOf (Some Union) p q out = take p.children out ≡ ids_of p
AreSizesOf (Some DenseUnion) p q out = take p.children out ≡ ids_of p
AreSizesOf f p q out = ⊤

-- the lists begin with the bytes of the rows at picks, as many as these need
pub record AreBytes (p : Part) (q : Picking) (v o x s : List ℕ) : Type 0 where
  pub valid : shows_valid p q ≡ true → AreBitsOf is_some p q.picks v
  pub offsets : AreOffsetsOf p.format p q.picks o
  pub values : AreValuesOf p.format p q.picks x
  pub sizes : AreSizesOf p.format p q.picks s

-- all bytes but the first n are as they were
pub record KeepsPast (n : ℕ) (old new : List ℕ) : Type 0 where
  pub long : length new ≡ length old
  pub past : drop n new ≡ drop n old

-- a room has the bytes of the rows at picks where these aren't kept, and no others changed; where
-- they are kept none did
pub record HasBytes (p : Part) (q : Picking) (old new : rooms.Room) : Type 0 where
  pub rows : q.kept ≡ false
      → AreBytes p q new.valid.now new.offsets.now new.values.now new.sizes.now
  pub valid : KeepsPast (need_of p q).valid old.valid.now new.valid.now
  pub offsets : KeepsPast (need_of p q).offsets old.offsets.now new.offsets.now
  pub values : KeepsPast (need_of p q).values old.values.now new.values.now
  pub sizes : KeepsPast (need_of p q).sizes old.sizes.now new.sizes.now

-- each room of a table does, at picks of the one column
pub record HaveBytes (parts : List Part) (q : Picking) (old new : List rooms.Room)
    : Type 0 where
  pub bytes : (k : ℕ) (d : Part) (r : Picking) (e : rooms.Room) → k < length parts
      → HasBytes (slice_index_or parts k d) (slice_index_or (pickings parts (q ∷ [])) k r)
      (slice_index_or old k e) (slice_index_or new k e)
