-- Rows of text, one after another.
use Rattle.std.specs.Prelude.{◌≡◌, ℕ, List, map}
use Rattle.vx_types.specs.RowValue.{RowValue, bytes}
use Rattle.vx_types.specs.TypeTree.{TypeKind}
use Rattle.vx_types.specs.declared.ptype.PType.TheVariants.{U64}
use Rattle.vx_text.specs.Building.{AreTexts}
use Rattle.vx_text.specs.OffsetList.{OffsetList}
use Rattle.vx_interleave.specs.Rows.{stored_as}

-- the offsets cut the bytes into the texts of rows, an empty one in place of each null
pub record AreJoined (k : TypeKind) (rows : List RowValue) (offsets : OffsetList)
    (joined : List ℕ) : Type 0 where
  pub texts : List (List ℕ)
  pub cut : AreTexts U64 offsets joined texts
  pub rows_are : map bytes texts ≡ map (stored_as k) rows
