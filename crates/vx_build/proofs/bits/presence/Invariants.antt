-- Whether the values before the one at hand are there.
use Rattle.std.proofs.Common.{◌≡◌, take, map}
use Rattle.std.specs.Prelude.{is_some}
use Rattle.vx_build.proofs.bits.presence.Given as goal

abbrev pub invariant-loop-value : goal.invariant-loop-value
invariant-loop-value g l = l.bits ≡ map is_some (take l.value-index l.values)
