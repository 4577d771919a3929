use Rattle.vx_bitfilter.proofs.PackedLaws.{packed_bits, zero_above}
use Rattle.vx_bitfilter.proofs.laws.pext_law.Goals as goal

pub returns-clause-packed : goal.returns-clause-packed
returns-clause-packed c = packed_bits

pub returns-clause-zero_above : goal.returns-clause-zero_above
returns-clause-zero_above c = zero_above
