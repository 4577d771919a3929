use Rattle.std.proofs.Common.{◌≡◌, ◌*◌, false, get_or, map, take}
use Rattle.vx_bitfilter.proofs.sparse.bits_at.Given as goal

abbrev pub invariant-loop-k : goal.invariant-loop-k
invariant-loop-k l = l.kept ≡ map (λ place. get_or l.src.bits place false) (take (64 * l.k) l.places)
