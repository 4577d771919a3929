-- The records of the numbers before the one at hand.
use Rattle.std.proofs.Common.{◌≡◌, length, map, take}
use Rattle.std.specs.Option.{option_map}
use Rattle.std.specs.Prelude.{is_some}
use Rattle.std.specs.Vec.{vec_capacity}
use Rattle.vx_types.specs.PType.{number}
use Rattle.vx_types.specs.RowValue.{bytes}
use Rattle.vx_model.specs.Valid.{shown_rows}
use Rattle.vx_build.specs.Rows.{row_or_null}
use Rattle.vx_build.proofs.primitive.records_or_zeros.Given as goal

abbrev pub invariant-loop-number : goal.invariant-loop-number
invariant-loop-number g l =
    let n = g.T.NativePType in
    let before = take l.number-index l.numbers in
    record {
      rows : shown_rows (map is_some before) (map bytes l.records.items) ≡ map (row_or_null (λ x. bytes (n.record_of x))) before;
      numbers : map (option_map (λ x. number n.ptype (n.record_of x))) before ≡ map (option_map n.integer) before;
      len : length l.records.items ≡ l.number-index;
      room : vec_capacity l.records ≡ length l.numbers;
    }
