use Rattle.std.proofs.Common.{◌≡◌, take}
use Rattle.std.specs.Prelude.{slice_range}
use Rattle.std.specs.List.{flat_map}
use Rattle.vx_filter.proofs.lists.filter_slice_by_slices.Given as goal

abbrev pub invariant-loop-run : goal.invariant-loop-run
invariant-loop-run g l = l.kept.items ≡ flat_map (λ run. slice_range l.src run.0 run.1) (take l.run-index l.slices)
