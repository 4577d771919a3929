use Rattle.std.proofs.Common.{◌≡◌, take, drop}
use Rattle.vx_bits.specs.BitBuffer.{number_of}
use Rattle.vx_column.specs.Truth.{true_bits}
use Rattle.vx_reading.proofs.truth.true_from_by_rows.Given as goal

-- the bits of the rows so far
abbrev pub invariant-loop-k : goal.invariant-loop-k
invariant-loop-k l = l.word ≡ number_of (take l.k (drop l.start (true_bits l.column)))
