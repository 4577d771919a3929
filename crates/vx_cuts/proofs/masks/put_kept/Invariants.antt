-- The parts so far, and the bit with which the next one begins.
use Rattle.std.proofs.Common.{◌≡◌, ℕ, ◌+◌, ◌<◌, get_or, slice_index}
use Rattle.vx_cuts.specs.Bounds.{bounds_of}
use Rattle.vx_cuts.specs.Masks.{kept_in}
use Rattle.vx_cuts.proofs.masks.put_kept.Given as goal

abbrev pub invariant-loop-k : goal.invariant-loop-k
invariant-loop-k l = record {
  so : (j : ℕ) → j < l.k → get_or l.left j 0 ≡ kept_in l.words l.at l.lengths j;
  begins : l.first ≡ l.at + slice_index (bounds_of l.lengths) l.k;
}
