use Rattle.std.proofs.Common.{arith}
use Rattle.vx_bits.proofs.bit_builder.push_word.Goals as goal

pub returns-clause-counted : goal.returns-clause-counted
returns-clause-counted c = omega (arith, c.put_eight.ensures.len, c.reserve.ensures.len, c.len.ensures)
