-- The bits of the selected lists, by runs or by set positions.
use Rattle.std.proofs.Common.{◌∙◌, ap}
use Rattle.vx_bits.specs.BitBuffer.{PlacedBits}
use Rattle.vx_mask.specs.Positions.{run_positions, set_of}
use Rattle.vx_lists.proofs.Spans.{ok_marked, rows_ascend, rows_covered}
use Rattle.vx_lists.proofs.element_mask.element_bits.Goals as goal

pub marked_by_runs-requires-clause-ascend : goal.marked_by_runs-requires-clause-ascend
marked_by_runs-requires-clause-ascend c = rows_ascend c.args.offsets.now _ (run_positions c.as_slice.result.now) c.requires.counted (ap run_positions c.as_slice.ensures.value ∙ c.in_ok-runs.ensures.cover)

pub marked_by_runs-requires-clause-covered : goal.marked_by_runs-requires-clause-covered
marked_by_runs-requires-clause-covered c = rows_covered c.args.range c.args.offsets.now _ (run_positions c.as_slice.result.now) c.requires.counted (ap run_positions c.as_slice.ensures.value ∙ c.in_ok-runs.ensures.cover) c.requires.covered

pub returns-then-density_at_least : goal.returns-then-density_at_least
returns-then-density_at_least c = ok_marked c.marked_by_runs.result (λ (b : PlacedBits). b.bits) c.args.offsets.now _ c.args.range (run_positions c.as_slice.result.now) c.requires.counted (ap run_positions c.as_slice.ensures.value ∙ c.in_ok-runs.ensures.cover) c.marked_by_runs.ensures.len c.marked_by_runs.ensures.set

pub marked_by_indices-requires-clause-ascend : goal.marked_by_indices-requires-clause-ascend
marked_by_indices-requires-clause-ascend c = rows_ascend c.args.offsets.now _ c.indices_of.result.now c.requires.counted (c.indices_of.ensures ∙ ap set_of c.in_ok-kept.ensures.bits)

pub marked_by_indices-requires-clause-covered : goal.marked_by_indices-requires-clause-covered
marked_by_indices-requires-clause-covered c = rows_covered c.args.range c.args.offsets.now _ c.indices_of.result.now c.requires.counted (c.indices_of.ensures ∙ ap set_of c.in_ok-kept.ensures.bits) c.requires.covered

pub returns : goal.returns
returns c = ok_marked c.marked_by_indices.result (λ (b : PlacedBits). b.bits) c.args.offsets.now _ c.args.range c.indices_of.result.now c.requires.counted (c.indices_of.ensures ∙ ap set_of c.in_ok-kept.ensures.bits) c.marked_by_indices.ensures.len c.marked_by_indices.ensures.set
