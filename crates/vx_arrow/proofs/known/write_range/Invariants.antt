-- The numbers so far are written.
use Rattle.std.proofs.Common.{◌≡◌, ◌++◌, ℕ, drop, map, take}
use Rattle.std.specs.List.{range_with_len}
use Rattle.vx_arrow.proofs.known.write_range.Given as goal

abbrev pub invariant-loop-k : goal.invariant-loop-k
invariant-loop-k l = l.places ≡ map (λ (p : ℕ). p) (take l.k (range_with_len l.start l.len)) ++ drop l.k l.initial.places
