use Rattle.vx_bits.proofs.BitLists.{are_fields}
use Rattle.vx_bits.proofs.bit_buffer.BitBuffer.offset.Goals as goal

pub returns-clause-below : goal.returns-clause-below
returns-clause-below c = let b = c.self.inside in (are_fields b.bytes b.offset b.len _ c.self.view_is c.self.invariant).below
