use Rattle.std.proofs.Common.{◌≡◌, ◌+◌, ◌++◌, take}
use Rattle.std.specs.List.{range_with_len}
use Rattle.vx_chunked.proofs.runs.put_range.Given as goal

abbrev pub invariant-loop-k : goal.invariant-loop-k
invariant-loop-k l = take (l.at + l.k) l.places ≡ take l.at l.fn.places ++ range_with_len l.first l.k
