use Rattle.std.proofs.Common.{◌≡◌, ◌-◌, ◌^◌, take}
use Rattle.std.specs.Prelude.{min, sum_by}
use Rattle.vx_pieces.proofs.places.total_len.Given as goal

abbrev pub invariant-loop-run : goal.invariant-loop-run
invariant-loop-run l = l.total ≡ min (sum_by (λ run. run.1) (take l.run-index l.runs)) (2 ^ 64 - 1)
