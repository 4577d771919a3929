use Rattle.std.proofs.Common.{sym}
use Rattle.vx_bits.proofs.BitLists.{are_fields}
use Rattle.vx_bits.proofs.bit_buffer.BitBuffer.len.Goals as goal

pub returns : goal.returns
returns c = let b = c.self.inside in sym (are_fields b.bytes b.offset b.len _ c.self.view_is c.self.invariant).long
