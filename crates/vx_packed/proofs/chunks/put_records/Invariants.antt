use Rattle.std.proofs.Common.{◌≡◌, ℕ, ◌<◌, [], get_or}
use Rattle.vx_packed.specs.Faults.{numbers_in}
use Rattle.vx_packed.specs.Parts.{record_of}
use Rattle.vx_packed.proofs.chunks.put_records.Given as goal

abbrev pub invariant-loop-j : goal.invariant-loop-j
invariant-loop-j g l = (k : ℕ) → k < l.j → get_or l.dst k [] ≡ record_of g.row.W (get_or (numbers_in l.bytes) k 0)
