-- A record for each row so far.
use Rattle.std.proofs.Common.{◌≡◌, length, map, take}
use Rattle.std.specs.Vec.{vec_capacity}
use Rattle.vx_types.specs.RowValue.{bytes}
use Rattle.vx_types.specs.RecordType.{kind_of}
use Rattle.vx_interleave.specs.Rows.{rows_in, stored_as}
use Rattle.vx_interleave.proofs.records.record_list.Given as goal

abbrev pub invariant-loop-cell : goal.invariant-loop-cell
invariant-loop-cell g l = record {
  count : length l.records.items ≡ l.cell-index;
  room : vec_capacity l.records ≡ length l.cells;
  records : map bytes l.records.items ≡ map (stored_as (kind_of l.record_type)) (rows_in (take l.cell-index l.cells));
}
