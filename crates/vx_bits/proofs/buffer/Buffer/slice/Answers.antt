use Rattle.std.proofs.Common.{length, ap, arith}
use Rattle.vx_bits.proofs.Cuts.{cut_of_cut, length_of_cut}
use Rattle.vx_bits.proofs.buffer.Buffer.slice.Goals as goal

pub returns : goal.returns
returns g c =
    let b = c.self.inside in
    let list = b.list.items in
    let fits = length_of_cut list b.start b.len c.self.invariant in
    let same = ap length c.self.view_is in
    rw (c.share.ensures, ← c.self.view_is) (cut_of_cut list b.start b.len c.args.start c.args.end c.requires.ordered (omega arith))
