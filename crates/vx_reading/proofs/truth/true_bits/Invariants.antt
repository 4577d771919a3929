use Rattle.std.proofs.Common.{◌≡◌, ◌-◌, ◌≤◌, take, length}
use Rattle.vx_column.specs.Truth.{true_bits}
use Rattle.vx_reading.proofs.truth.true_bits.Given as goal

-- the bits so far
abbrev pub invariant-stretch : goal.invariant-stretch
invariant-stretch l = record {
  within : l.at ≤ length (true_bits l.column);
  bits : l.bits ≡ take l.at (true_bits l.column);
}

abbrev pub decreases-stretch : goal.decreases-stretch
decreases-stretch l = length (true_bits l.column) - l.at
