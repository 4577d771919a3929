-- What the items of a list mean.
use Rattle.std.specs.Prelude.{List, [], ◌∷◌, Option, Some}
use Rattle.serde_json.specs.Data.{Data, Items, no_items, item}
use Rattle.vx_json.specs.Meaning.{◌>>=◌}

-- what f gives of each item, where it gives something of all
unfoldable pub each : {A : Type 0} → (Data → Option A) → Items → Option (List A)
each f no_items = Some []
each f (item d ds) = do
  x ← f d
  xs ← each f ds
  Some (x ∷ xs)
