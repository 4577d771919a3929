-- The bounds so far, and those of the lengths that are left.
use Rattle.std.proofs.Common.{◌≡◌, ◌+◌, ◌++◌, drop}
use Rattle.std.specs.List.{sum}
use Rattle.vx_cuts.specs.Bounds.{bounds_from, bounds_of}
use Rattle.vx_cuts.proofs.bounds.bounds_of.Given as goal

abbrev pub invariant-loop-n : goal.invariant-loop-n
invariant-loop-n l = record {
  pushed : l.bounds.items ++ bounds_from l.end (drop l.n-index l.lengths) ≡ bounds_of l.lengths;
  ends : l.end + sum (drop l.n-index l.lengths) ≡ sum l.lengths;
}
