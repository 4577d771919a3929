-- The items of the lists so far, tested and counted.
use Rattle.std.proofs.Common.{◌+◌, ◌-◌, ◌≤◌, length}
use Rattle.std.specs.Prelude.{vec_capacity, vec_len}
use Rattle.vx_arrow_image.specs.Image.{part_of}
use Rattle.vx_arrow_columns.specs.Picks.{picks_of}
use Rattle.vx_arrow_columns.proofs.MeasureSteps.{ItemsTo}
use Rattle.vx_runs.specs.Runs.{run_places}
use Rattle.vx_arrow_columns.proofs.needs.runs_of.Given as goal

abbrev pub invariant-loop-k : goal.invariant-loop-k
invariant-loop-k l = record {
  items : ItemsTo l.size (part_of l.node) (picks_of l.picks.places.now l.picks.valid.now l.picks.add) l.items l.k l.total (run_places l.runs.items) l.last;
  room : vec_len l.runs + (length l.picks.places.now - l.k) ≤ vec_capacity l.runs;
}
