-- The texts of the runs before the one at hand.
use Rattle.std.proofs.Common.{take, slice_range}
use Rattle.std.specs.List.{flat_map}
use Rattle.vx_offsets.specs.Offsets.{lists_at, offset_positions, record_numbers}
use Rattle.vx_text.specs.Building.{AreTexts}
use Rattle.vx_text.proofs.run_texts.texts_by_runs.Given as goal

abbrev pub invariant-loop-rows : goal.invariant-loop-rows
invariant-loop-rows g l =
    AreTexts l.ptype l.texts.offsets l.texts.bytes.items
    (flat_map (λ run. slice_range (lists_at (offset_positions (record_numbers l.ptype l.records)) l.bytes) run.0 run.1) (take l.rows-index l.runs))
