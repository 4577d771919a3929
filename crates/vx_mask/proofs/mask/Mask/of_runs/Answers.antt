use Rattle.std.proofs.Common.{refl, arith}
use Rattle.vx_mask.specs.Mask.{mask_by_slices}
use Rattle.vx_mask.specs.Positions.{run_positions}
use Rattle.vx_mask.proofs.AscendingLists.{ascending-run_positions}
use Rattle.vx_mask.proofs.Partial.{fewer, made_from_none, made_from_all, made_from_some}
use Rattle.vx_mask.proofs.mask.Mask.of_runs.Goals as goal

pub returns-then-count-eq0 : goal.returns-then-count-eq0
returns-then-count-eq0 c = made_from_none c.args.len c.args.count (run_positions c.args.slices.items) (mask_by_slices c.args.len c.args.slices.items) (ascending-run_positions 0 c.args.len c.args.slices.items c.requires.ascend) refl c.requires.counted c.if-count-eq0.true

pub returns-then-count-len : goal.returns-then-count-len
returns-then-count-len c = made_from_all c.args.len c.args.count (run_positions c.args.slices.items) (mask_by_slices c.args.len c.args.slices.items) (ascending-run_positions 0 c.args.len c.args.slices.items c.requires.ascend) refl c.requires.counted c.if-count-len.true

pub by_slices-requires-clause-not_all : goal.by_slices-requires-clause-not_all
by_slices-requires-clause-not_all c = fewer c.args.len c.args.count (run_positions c.args.slices.items) (ascending-run_positions 0 c.args.len c.args.slices.items c.requires.ascend) c.requires.counted c.if-count-len.false

pub returns : goal.returns
returns c =
    let ascend = ascending-run_positions 0 c.args.len c.args.slices.items c.requires.ascend in
    made_from_some c.in_ok-by_slices.field-0 (mask_by_slices c.args.len c.args.slices.items) c.args.len c.args.count (run_positions c.args.slices.items) ascend refl c.requires.counted (omega (arith, c.if-count-eq0.false)) (fewer c.args.len c.args.count (run_positions c.args.slices.items) ascend c.requires.counted c.if-count-len.false) c.in_ok-by_slices.ensures
