-- What a column keeps beside its layout.
use Rattle.std.specs.Prelude.{◌≡◌, ℕ, length, true}
use Rattle.vx_types.specs.DType.{type_of}
use Rattle.vx_types.specs.TypeTree.{is_carried}
use Rattle.vx_types.specs.declared.dtype.DType.{DType}
use Rattle.vx_model.specs.Column.{Column}

-- the type and the number of rows that are kept are those of the column
pub record IsTyped (t : DType) (len : ℕ) (c : Column) : Type 0 where
  pub dtype : type_of t ≡ c.dtype
  pub rows : len ≡ length c.rows
  pub carried : is_carried c.dtype ≡ true
