use Rattle.std.proofs.Common.{◌≡◌, take}
use Rattle.vx_take.specs.Picks.{in_runs}
use Rattle.vx_take.proofs.slices.gather_runs.Given as goal

abbrev pub invariant-loop-run : goal.invariant-loop-run
invariant-loop-run g l = l.items.items ≡ in_runs l.src (take l.run-index l.runs)
