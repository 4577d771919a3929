use Rattle.std.proofs.Common.{◌≡◌, ◌*◌, ◌^◌, ◌≤◌, map, take}
use Rattle.std.specs.Prelude.{sum}
use Rattle.vx_rows.specs.Made.{number_or_zero}
use Rattle.vx_rows.proofs.made.sum_of.Given as goal

-- the sum of the rows so far
abbrev pub invariant-loop-i : goal.invariant-loop-i
invariant-loop-i l = record {
  summed : l.sum ≡ sum (map number_or_zero (take l.i l.rows.rows));
  small : l.sum ≤ l.i * 2 ^ 32;
}
