-- The fields before the one at hand.
use Rattle.std.proofs.Common.{◌≡◌, map}
use Rattle.vx_build.proofs.nested.shared.Given as goal

abbrev pub invariant-loop-name : goal.invariant-loop-name
invariant-loop-name l =
    (map (λ f. f.0.now) l.shared.items ≡ map (λ f. f.0.now) l.yielded)
    × (map (λ f. f.1) l.shared.items ≡ map (λ f. f.1) l.yielded)
