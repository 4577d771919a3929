use Rattle.std.proofs.Common.{◌≡◌, length, map, take}
use Rattle.std.specs.Prelude.{vec_len}
use Rattle.std.specs.Vec.{vec_capacity}
use Rattle.vx_lists.specs.Fixed.{scaled_run}
use Rattle.vx_lists.proofs.fixed.scaled.Given as goal

abbrev pub invariant-loop-run : goal.invariant-loop-run
invariant-loop-run l = record {
  items : l.scaled.items ≡ map (scaled_run l.size) (take l.run-index l.runs);
  count : vec_len l.scaled ≡ l.run-index;
  room : vec_capacity l.scaled ≡ length l.runs;
}
