-- Whole numbers, and pairs of them.
use Rattle.std.specs.Prelude.{ℕ, nat_le, if◌then◌else◌, Option, Some, None}
use Rattle.serde_json.specs.Data.{Data, Items, no_items, item}
use Rattle.serde_json.specs.Find.{as_number, as_array, as_u64}
use Rattle.vx_json.specs.Meaning.{◌>>=◌}

-- a whole number from 0 to 2^64 - 1
unfoldable pub whole_of : Data → Option ℕ
whole_of d = as_number d >>= as_u64

-- a list of just two whole numbers
unfoldable pub pair_in : Items → Option (ℕ × ℕ)
pair_in no_items = None
pair_in (item a no_items) = None
pair_in (item a (item b no_items)) = do
  x ← whole_of a
  y ← whole_of b
  Some (x, y)
pair_in (item a (item b (item c ds))) = None

unfoldable pub pair_of : Data → Option (ℕ × ℕ)
pair_of d = as_array d >>= pair_in

-- a whole number up to a bound
unfoldable pub at_most : ℕ → Data → Option ℕ
at_most bound d = whole_of d >>= λ n. if nat_le n bound then Some n else None
