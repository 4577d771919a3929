-- A run ends no earlier than it begins.
use Rattle.std.proofs.Common.{length, arith}
use Rattle.vx_offsets.proofs.ReadOffsets.{run_ordered}
use Rattle.vx_text.proofs.text_run.TextRun.bounds.Goals as goal

pub returns-clause-ordered : goal.returns-clause-ordered
returns-clause-ordered g c =
    let run = c.args.self in
    omega (arith, c.offset-start.ensures.value, c.offset-end.ensures.value, run_ordered run.ptype run.records.now (length run.bytes.now) run.rows.0 run.rows.1 run.offsets run.ordered run.within)
