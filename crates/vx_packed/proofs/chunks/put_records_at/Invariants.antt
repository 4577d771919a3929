use Rattle.std.proofs.Common.{◌≡◌, take, map, Some}
use Rattle.std.specs.Prelude.{slice_get}
use Rattle.vx_packed.specs.Faults.{numbers_in}
use Rattle.vx_packed.specs.Parts.{records_of}
use Rattle.vx_packed.proofs.chunks.put_records_at.Given as goal

abbrev pub invariant-loop-k : goal.invariant-loop-k
invariant-loop-k g l = map Some (take l.k l.dst) ≡ map (slice_get (records_of g.row.W (numbers_in l.bytes))) (take l.k l.indices)
