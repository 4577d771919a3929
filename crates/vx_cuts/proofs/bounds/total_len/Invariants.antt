-- The sum so far, and that of the lengths that are left.
use Rattle.std.proofs.Common.{◌≡◌, ◌+◌, ◌<◌, ◌^◌, drop}
use Rattle.std.specs.List.{sum}
use Rattle.vx_cuts.proofs.bounds.total_len.Given as goal

abbrev pub invariant-loop-n : goal.invariant-loop-n
invariant-loop-n l = record {
  so : l.total + sum (drop l.n-index l.lengths) ≡ sum l.lengths;
  fits : l.total < 2 ^ 64;
}
