-- No row of the run begins before it or ends behind it.
use Rattle.std.proofs.Common.{◌+◌, ◌<◌, ◌≤◌, length, arith}
use Rattle.vx_offsets.proofs.ReadOffsets.{run_ordered}
use Rattle.vx_text.proofs.text_run.TextRun.end_behind.Goals as goal

pub overflow_sub-result : goal.overflow_sub-result
overflow_sub-result g c =
    let run = c.args.self in
    let next : c.args.row + 1 < length run.records.now = omega (arith, c.requires.to, run.within) in
    omega (arith, c.requires.first, c.offset.ensures.value, run_ordered run.ptype run.records.now (length run.bytes.now) run.rows.0 (c.args.row + 1) run.offsets (omega (arith, c.requires.from)) next)

pub returns-clause-within : goal.returns-clause-within
returns-clause-within g c =
    let run = c.args.self in
    let to : c.args.row + 1 ≤ run.rows.1 = omega (arith, c.requires.to) in
    omega (arith, c.requires.first, c.offset.ensures.value, run_ordered run.ptype run.records.now (length run.bytes.now) (c.args.row + 1) run.rows.1 run.offsets to run.within)
