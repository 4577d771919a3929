-- The keys of the rows before this one.
use Rattle.std.proofs.Common.{◌≡◌, ◌<◌, ℕ, map, take}
use Rattle.std.specs.Prelude.{slice_index_or}
use Rattle.vx_types.specs.RowValue.{null}
use Rattle.vx_join.specs.Numbers.{IsRecord, number_key}
use Rattle.vx_join.proofs.numbers.keys_of.Given as goal

abbrev pub invariant-loop-i : goal.invariant-loop-i
invariant-loop-i l = record {
  keys : l.keys.items ≡ map number_key (take l.i l.column.rows);
  records : (k : ℕ) → k < l.i → IsRecord l.width (slice_index_or l.column.rows k null);
}
