-- What a loop over the numbers keeps.
use Rattle.std.proofs.Common.{◌≡◌, map, pos, ℕ, vec_len}
use Rattle.std.specs.Vec.{vec_capacity}
use Rattle.std.specs.List.{range_with_len}
use Rattle.vx_types.specs.PType.{record_of, width}
use Rattle.vx_json.proofs.values.ramp_records.Given as goal

abbrev pub invariant-loop-i : goal.invariant-loop-i
invariant-loop-i g l = record {
  records : l.records.items ≡ map (λ (i : ℕ). record_of (width l.fn.ptype) (pos i)) (range_with_len 0 l.i);
  len : vec_len l.records ≡ l.i;
  room : vec_capacity l.records ≡ l.fn.len;
}
