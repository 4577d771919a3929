-- Tests, and bits as numbers.
use Rattle.std.proofs.Common.{◌≡◌, Bool, true, false, cond, ◌&&◌, refl}
use Rattle.std.specs.Int.{from_bool}

-- a test behind one that passes
pub and_step : (a b : Bool) → a ≡ true → b ≡ (a && b)
and_step true b h = refl
and_step false b h = cc

-- a bit as a number
pub from_bool-cond : (bit : Bool) → from_bool bit ≡ cond bit 1 0
from_bool-cond true = refl
from_bool-cond false = refl
