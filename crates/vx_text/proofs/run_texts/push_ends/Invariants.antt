-- The rows of the run before the one at hand are put out, whatever texts stand before it.
use Rattle.std.proofs.Common.{◌≡◌, ℕ, ◌++◌, List, length, slice_range}
use Rattle.std.specs.Prelude.{slice_index}
use Rattle.vx_offsets.specs.Offsets.{lists_at, offset_positions, record_numbers}
use Rattle.vx_text.specs.Building.{AddsTexts}
use Rattle.vx_text.proofs.run_texts.push_ends.Given as goal

abbrev pub invariant-loop-row : goal.invariant-loop-row
invariant-loop-row g l =
    let run = l.fn.run in let b = run.bytes.now in
    let os = offset_positions (record_numbers run.ptype run.records.now) in
    (front : List ℕ) → length front ≡ l.base → AddsTexts l.initial.ends front l.ends (front ++ slice_range b (slice_index os run.rows.0) (slice_index os l.row)) (slice_range (lists_at os b) run.rows.0 l.row)
