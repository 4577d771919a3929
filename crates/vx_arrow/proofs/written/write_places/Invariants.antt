-- The places of the picks before the one at hand.
use Rattle.std.proofs.Common.{◌≡◌, ◌++◌, map, take, drop}
use Rattle.vx_arrow.specs.Written.{place_of}
use Rattle.vx_arrow.proofs.written.write_places.Given as goal

abbrev pub invariant-loop-k : goal.invariant-loop-k
invariant-loop-k l = l.places ≡ map place_of (take l.k l.picks.picks) ++ drop l.k l.initial.places
