use Rattle.std.proofs.Common.{◌≡◌, map, sum}
use Rattle.std.specs.List.{range_with_len}
use Rattle.vortex_arrow_c.specs.Causes.{capped, wide_at}
use Rattle.vortex_arrow_c.proofs.causes.indices_of.Given as goal

abbrev pub invariant-loop-i : goal.invariant-loop-i
invariant-loop-i l = l.sum ≡ capped (sum (map (wide_at l.step.lengths.now) (range_with_len l.step.offset l.i)))
