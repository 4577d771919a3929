-- The parts so far, and the rows past them.
use Rattle.std.proofs.Common.{◌≡◌, ℕ, ◌-◌, ◌<◌, get_or, slice_index}
use Rattle.vx_cuts.specs.Bounds.{bounds_of}
use Rattle.vx_cuts.specs.Slices.{row_in}
use Rattle.vx_cuts.proofs.slices.put_rows.Given as goal

abbrev pub invariant-loop-k : goal.invariant-loop-k
invariant-loop-k l = record {
  so : (j : ℕ) → j < l.k → get_or l.dst j 0 ≡ row_in l.lengths l.row j;
  past : l.left ≡ l.row - slice_index (bounds_of l.lengths) l.k;
}
