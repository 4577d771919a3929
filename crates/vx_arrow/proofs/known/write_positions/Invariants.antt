-- The positions of the records so far are written.
use Rattle.std.proofs.Common.{◌≡◌, ◌++◌, drop, map, take}
use Rattle.vx_types.specs.PType.{number}
use Rattle.vx_positions.specs.Positions.{position_of}
use Rattle.vx_arrow.proofs.known.write_positions.Given as goal

abbrev pub invariant-loop-k : goal.invariant-loop-k
invariant-loop-k g l = l.places ≡ map (λ r. position_of (number l.ptype r)) (take l.k l.records) ++ drop l.k l.initial.places
