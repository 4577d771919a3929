use Rattle.std.proofs.Common.{◌*◌, ◌^◌, ◌<◌, take}
use Rattle.std.specs.List.{All}
use Rattle.vx_types.specs.PType.{width}
use Rattle.filing.proofs.numbers.all_fit.Given as goal

-- the numbers so far are numbers of the type
abbrev pub invariant-loop-number : goal.invariant-loop-number
invariant-loop-number l =
    All (λ n. n < 2 ^ (8 * width l.ptype)) (take l.number-index l.numbers)
