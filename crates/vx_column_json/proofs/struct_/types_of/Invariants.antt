-- The types of the columns before the one at hand.
use Rattle.std.proofs.Common.{◌≡◌, map, take, length, vec_len}
use Rattle.std.specs.Vec.{vec_capacity}
use Rattle.vx_types.specs.DType.{type_of}
use Rattle.vx_model.specs.Columns.{types_in}
use Rattle.vx_column_json.proofs.struct_.types_of.Given as goal

abbrev pub invariant-loop-column : goal.invariant-loop-column
invariant-loop-column l = record {
  types : map type_of l.types.items ≡ types_in (take l.column-index l.columns);
  len : vec_len l.types ≡ l.column-index;
  room : vec_capacity l.types ≡ length l.columns;
}
