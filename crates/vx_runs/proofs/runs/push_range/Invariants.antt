-- The places so far.
use Rattle.std.proofs.Common.{◌≡◌, ◌+◌, ◌++◌, ◌-◌, ◌≤◌}
use Rattle.std.specs.Prelude.{vec_len, vec_capacity}
use Rattle.std.specs.List.{range_with_len}
use Rattle.vx_runs.proofs.runs.push_range.Given as goal

abbrev pub invariant-loop-place : goal.invariant-loop-place
invariant-loop-place l =
    (l.places.items ≡ l.fn.places.items ++ range_with_len l.start (l.place - l.start))
    × (vec_len l.places + (l.end - l.place) ≤ vec_capacity l.places)
