use Rattle.std.proofs.Common.{◌*◌, ◌^◌, ◌<◌, take}
use Rattle.std.specs.List.{All}
use Rattle.rows_of_bytes.proofs.packed.numbers.are_below.Given as goal

abbrev pub invariant-loop-n : goal.invariant-loop-n
invariant-loop-n l = All (λ n. n < 2 ^ (8 * l.width)) (take l.n-index l.numbers)
