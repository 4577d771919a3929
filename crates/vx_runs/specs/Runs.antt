-- Runs of places that follow one another.
use Rattle.std.specs.Prelude.{ℕ, List}
use Rattle.std.specs.List.{flat_map, range_with_len}
use Rattle.vx_runs.specs.declared.runs.Run as runs

-- the places of a run
abbrev pub places_of_run : runs.Run → List ℕ
places_of_run r = range_with_len r.start r.len

-- and of runs, in order
unfoldable pub run_places : List runs.Run → List ℕ
run_places rs = flat_map places_of_run rs
