use Rattle.std.proofs.Common.{◌≡◌, max, get_or, take}
use Rattle.std.specs.List.{fold}
use Rattle.vx_packed.proofs.extremes.greatest_of.Given as goal

abbrev pub invariant-loop-n : goal.invariant-loop-n
invariant-loop-n l = l.high ≡ fold max (get_or l.numbers 0 0) (take l.n-index l.numbers)
