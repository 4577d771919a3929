use Rattle.std.proofs.Common.{◌^◌, ◌<◌, take}
use Rattle.std.specs.List.{All}
use Rattle.rows_of_selections.proofs.numbers.are_below.Given as goal

abbrev pub invariant-loop-n : goal.invariant-loop-n
invariant-loop-n l = All (λ n. n < 2 ^ 32) (take l.n-index l.values)
