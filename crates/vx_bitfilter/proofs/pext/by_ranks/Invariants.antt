use Rattle.std.proofs.Common.{◌≡◌, ◌+◌}
use Rattle.std.specs.Int.RustNames.{count_ones}
use Rattle.vx_bitfilter.proofs.PickRanks.{ByRanks}
use Rattle.vx_bitfilter.proofs.pext.by_ranks.Given as goal

abbrev pub invariant-loop : goal.invariant-loop
invariant-loop l = record {
  packed : ByRanks l.src l.mask l.packed l.left;
  turns : l.counter + count_ones l.left ≡ l.end;
}
