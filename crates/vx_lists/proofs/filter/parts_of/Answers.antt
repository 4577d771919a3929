-- The sums and the bits of the selected lists, by runs or by set positions.
use Rattle.std.proofs.Common.{◌∙◌, ap, length, sym}
use Rattle.vx_mask.specs.Mask.{mask_bits}
use Rattle.vx_mask.specs.Positions.{run_positions, set_of}
use Rattle.vx_mask.proofs.PositionLists.{length-positions}
use Rattle.vx_lists.proofs.Spans.{rows_ascend, rows_covered, rows_marked_all}
use Rattle.vx_lists.proofs.filter.parts_of.Goals as goal

pub sums_by_runs-requires-clause-ascend : goal.sums_by_runs-requires-clause-ascend
sums_by_runs-requires-clause-ascend c = rows_ascend c.args.offsets.now _ (run_positions c.as_slice.result.now) c.requires.counted (ap run_positions c.as_slice.ensures.value ∙ c.in_ok-runs.ensures.cover)

pub sums_by_runs-requires-clause-counted : goal.sums_by_runs-requires-clause-counted
sums_by_runs-requires-clause-counted c = c.true_count.ensures ∙ sym (ap length (ap run_positions c.as_slice.ensures.value ∙ c.in_ok-runs.ensures.cover) ∙ length-positions 0 (mask_bits c.args.mask.now))

pub marked_by_runs-requires-clause-ascend : goal.marked_by_runs-requires-clause-ascend
marked_by_runs-requires-clause-ascend c = rows_ascend c.args.offsets.now _ (run_positions c.as_slice-then-density_at_least.result.now) c.requires.counted (ap run_positions c.as_slice-then-density_at_least.ensures.value ∙ c.in_ok-runs.ensures.cover)

pub marked_by_runs-requires-clause-covered : goal.marked_by_runs-requires-clause-covered
marked_by_runs-requires-clause-covered c = rows_covered c.args.range c.args.offsets.now _ (run_positions c.as_slice-then-density_at_least.result.now) c.requires.counted (ap run_positions c.as_slice-then-density_at_least.ensures.value ∙ c.in_ok-runs.ensures.cover) c.requires.range.covers

pub returns-then-density_at_least-clause-bits : goal.returns-then-density_at_least-clause-bits
returns-then-density_at_least-clause-bits c = rows_marked_all c.args.offsets.now _ c.args.range (run_positions c.as_slice-then-density_at_least.result.now) _ c.requires.counted (ap run_positions c.as_slice-then-density_at_least.ensures.value ∙ c.in_ok-runs.ensures.cover) c.in_ok-bits.ensures.len c.in_ok-bits.ensures.set

pub sums_by_indices-requires-clause-ascend : goal.sums_by_indices-requires-clause-ascend
sums_by_indices-requires-clause-ascend c = rows_ascend c.args.offsets.now _ c.indices_of-indices.result.now c.requires.counted (c.indices_of-indices.ensures ∙ ap set_of c.in_ok-kept.ensures.bits)

pub marked_by_indices-requires-clause-ascend : goal.marked_by_indices-requires-clause-ascend
marked_by_indices-requires-clause-ascend c = rows_ascend c.args.offsets.now _ c.indices_of-indices.result.now c.requires.counted (c.indices_of-indices.ensures ∙ ap set_of c.in_ok-kept.ensures.bits)

pub marked_by_indices-requires-clause-covered : goal.marked_by_indices-requires-clause-covered
marked_by_indices-requires-clause-covered c = rows_covered c.args.range c.args.offsets.now _ c.indices_of-indices.result.now c.requires.counted (c.indices_of-indices.ensures ∙ ap set_of c.in_ok-kept.ensures.bits) c.requires.range.covers

pub returns-clause-bits : goal.returns-clause-bits
returns-clause-bits c = rows_marked_all c.args.offsets.now _ c.args.range c.indices_of-indices.result.now _ c.requires.counted (c.indices_of-indices.ensures ∙ ap set_of c.in_ok-kept.ensures.bits) c.in_ok-bits-2.ensures.len c.in_ok-bits-2.ensures.set
