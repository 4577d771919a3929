use Rattle.std.proofs.Common.{◌≡◌, ◌*◌, map, take}
use Rattle.vx_take.proofs.bits.packed.Given as goal

abbrev pub invariant-loop-w : goal.invariant-loop-w
invariant-loop-w g l = l.bits ≡ map (g.B.BitOf.bit l.bit) (take (64 * l.w) l.places)
