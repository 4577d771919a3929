use Rattle.std.proofs.Common.{length, ap, arith}
use Rattle.vx_packed.specs.Parts.{parts_of}
use Rattle.vx_packed.proofs.CutParts.{length-all_numbers}
use Rattle.vx_packed.proofs.RecordLists.{length-all_records}
use Rattle.vx_packed.proofs.chunks.PackedChunks.len.Goals as goal

pub returns-clause-decoded : goal.returns-clause-decoded
returns-clause-decoded g c =
    let all = length-all_records g.row.W c.self.inside.bytes c.args.self.now c.self.invariant.bounded c.self.view_is in
    omega (arith, all, c.len.ensures, c.self.invariant.indexed.counted, length-all_numbers (parts_of c.self.inside.bytes), ap length c.self.view_is)

pub returns-clause-value : goal.returns-clause-value
returns-clause-value g c =
    omega (arith, c.len.ensures, c.self.invariant.indexed.counted, length-all_numbers (parts_of c.self.inside.bytes), ap length c.self.view_is)
