-- What a call asks of a mask, of picks or of a range, and of the validity of the rows that it
-- leaves.
use Rattle.std.specs.Prelude.{◌≡◌, ℕ, ◌-◌, ◌≤◌, length, true}
use Rattle.vx_bits.specs.BitBuffer.{true_count_of}
use Rattle.vx_mask.specs.MaskValues.{PartialMask}
use Rattle.vx_take.specs.Picks.{BoundedPicks}
use Rattle.vx_model.specs.Valid.{Valid, is_fitting}

-- the mask has a bit for each of n rows, and the validity fits the rows at its set positions
pub record FitsFilter (n : ℕ) (mask : PartialMask) (valid : Valid) : Type 0 where
  pub long : length mask.bits.bits ≡ n
  pub fitting : is_fitting valid (true_count_of mask.bits.bits) ≡ true

-- the picks name rows below n, and the validity fits the rows at them
pub record FitsTake (n : ℕ) (picks : BoundedPicks) (valid : Valid) : Type 0 where
  pub bound : picks.bound ≤ n
  pub fitting : is_fitting valid (length picks.picks) ≡ true

-- the range lies within n rows, and the validity fits the rows between
pub record FitsSlice (n start end : ℕ) (valid : Valid) : Type 0 where
  pub ordered : start ≤ end
  pub within : end ≤ n
  pub fitting : is_fitting valid (end - start) ≡ true
