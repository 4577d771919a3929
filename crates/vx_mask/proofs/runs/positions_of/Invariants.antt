use Rattle.std.proofs.Common.{◌≡◌, ◌*◌, take}
use Rattle.std.specs.Vec.{vec_capacity}
use Rattle.vx_mask.specs.Positions.{set_of}
use Rattle.vx_mask.proofs.runs.positions_of.Given as goal

abbrev pub invariant-loop-w : goal.invariant-loop-w
invariant-loop-w l = record {
  found : l.indices.items ≡ set_of (take (64 * l.w) l.bits.bits);
  room : vec_capacity l.indices ≡ l.count;
}
