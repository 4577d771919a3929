-- The pairs from this one on decide.
use Rattle.std.proofs.Common.{◌≡◌, drop}
use Rattle.std.specs.Prelude.{not}
use Rattle.std.specs.List.{position_from}
use Rattle.vx_join.specs.Join.{has_key_types}
use Rattle.vx_join.proofs.faults.first_of_other_types.Given as goal

abbrev pub invariant-loop-pair : goal.invariant-loop-pair
invariant-loop-pair l =
    position_from (λ k. not (has_key_types l.left l.right k)) 0 l.keys ≡ position_from (λ k. not (has_key_types l.left l.right k)) l.pair (drop l.pair l.keys)
