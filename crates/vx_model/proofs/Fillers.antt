-- The values under a null row of structs.
use Rattle.std.proofs.Common.{◌≡◌, List, [], ◌∷◌, map, refl, ap}
use Rattle.vx_types.specs.RowValue.{more, row_values}
use Rattle.vx_types.specs.TypeTree.{TypeTree, types_of}
use Rattle.vx_model.specs.Filler.{filler_row, filler_values}

-- they are each type's own row, one after another
pub values-fields : (ts : List TypeTree) → filler_values (types_of ts) ≡ row_values (map filler_row ts)
values-fields [] = refl
values-fields (t ∷ ts) = ap (λ l. more (filler_row t) l) (values-fields ts)
