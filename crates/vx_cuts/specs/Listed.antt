-- The bounds of parts in a list of the caller's.
use Rattle.std.specs.Prelude.{◌≡◌, ◌≢◌, ℕ, ◌+◌, ◌^◌, ◌==◌, List, length, nat_lt, if◌then◌else◌}
use Rattle.std.specs.List.{sum}
use Rattle.vx_cuts.specs.Bounds.{bounds_of}

-- why the bounds of parts of these lengths do not fill a list of so many: 1 where it is not one
-- longer, else 7 where the parts have more rows than 64 bits count, else 0
abbrev pub bounds_fault : List ℕ → ℕ → ℕ
bounds_fault lengths room =
    if room == length lengths + 1 then if nat_lt (sum lengths) (2 ^ 64) then 0 else 7 else 1

-- the bounds are written; or the call was refused and the list is as it was
pub record AreBoundsListed (lengths old new : List ℕ) (status value : ℕ) : Type 0 where
  pub fault : status ≡ bounds_fault lengths (length old)
  pub bounds : status ≡ 0 → new ≡ bounds_of lengths
  pub rows : status ≡ 0 → value ≡ sum lengths
  pub untold : status ≢ 0 → value ≡ 0
  pub refused : status ≢ 0 → new ≡ old
