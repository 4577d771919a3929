-- No offset is below the one before.
use Rattle.std.proofs.Common.{arith}
use Rattle.vx_offsets.proofs.ReadOffsets.{read_ascends}
use Rattle.vx_offsets.proofs.reading.span_at.Goals as goal

pub returns-clause-ordered : goal.returns-clause-ordered
returns-clause-ordered g c =
    omega (arith, read_ascends c.args.ptype c.args.records.now c.args.i c.args.len c.requires.offsets c.requires.row, c.offset_at-start.ensures.value, c.offset_at-end.ensures.value)
