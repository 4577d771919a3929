-- The bounds so far.
use Rattle.std.proofs.Common.{◌≡◌, ℕ, ◌+◌, ◌<◌, get_or, slice_index}
use Rattle.vx_cuts.specs.Bounds.{bounds_of}
use Rattle.vx_cuts.proofs.listed.put_bounds.Given as goal

abbrev pub invariant-loop-k : goal.invariant-loop-k
invariant-loop-k l = record {
  so : (j : ℕ) → j < l.k + 1 → get_or l.bounds j 0 ≡ slice_index (bounds_of l.lengths) j;
  ends : l.end ≡ slice_index (bounds_of l.lengths) l.k;
}
