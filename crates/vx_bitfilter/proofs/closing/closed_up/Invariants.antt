use Rattle.std.proofs.Common.{◌≡◌, ◌+◌}
use Rattle.std.specs.Int.RustNames.{count_ones}
use Rattle.vx_bitfilter.proofs.ClosedBits.{IsClosing}
use Rattle.vx_bitfilter.proofs.closing.closed_up.Given as goal

abbrev pub invariant-loop : goal.invariant-loop
invariant-loop l = record {
  closing : IsClosing l.src l.mask l.packed l.clear;
  turns : l.counter + count_ones l.clear ≡ l.end;
}
