-- What contracts see of a source in memory of which no call fails.
use Rattle.std.specs.Prelude.{ℕ, List}

pub record SteadyState : Type 0 where
  -- the bytes that are left
  pub bytes : List ℕ
  -- how many a call takes at most
  pub piece : ℕ
