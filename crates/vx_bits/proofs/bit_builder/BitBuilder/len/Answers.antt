use Rattle.std.proofs.Common.{length, ap, arith}
use Rattle.vx_bits.proofs.BuiltLists.{length-built}
use Rattle.vx_bits.proofs.bit_builder.BitBuilder.len.Goals as goal

pub returns : goal.returns
returns c =
    let b = c.self.inside in
    omega (arith, length-built b.bytes.items b.next b.held, ap length c.self.view_is, c.len.ensures, b.bytes.ok.0)
