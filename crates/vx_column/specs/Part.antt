-- What a column hands out of itself.
use Rattle.std.specs.Prelude.{◌≡◌, Option, None}
use Rattle.vx_types.specs.declared.error.ColumnError.{ColumnError}

-- it is that part of the column, and the column is without fault
pub record IsPart {X : Type 0} (fault : Option ColumnError) (given part : X) : Type 0 where
  pub value : given ≡ part
  pub valid : fault ≡ None
