-- Numbers of four bytes that are handed out as such of eight.
use Rattle.std.specs.Prelude.{◌≡◌, ◌≢◌, ℕ, List, ◌++◌, length, drop, if◌then◌else◌, nat_lt}

-- the numbers stand at the front of the output and the rest of it is as it was, or there was too
-- little room and all of it is
pub record IsWidened (src old new : List ℕ) (status value : ℕ) : Type 0 where
  pub fault : status ≡ (if nat_lt (length old) (length src) then 3 else 0)
  pub count : value ≡ length src
  pub numbers : status ≡ 0 → new ≡ src ++ drop (length src) old
  pub refused : status ≢ 0 → new ≡ old
