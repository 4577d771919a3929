-- The places so far are below.
use Rattle.std.proofs.Common.{◌≡◌, nat_lt, take}
use Rattle.std.specs.List.{list_all}
use Rattle.vx_runs.proofs.places.are_all_below.Given as goal

abbrev pub invariant-loop-place : goal.invariant-loop-place
invariant-loop-place l = l.are_below ≡ list_all (λ p. nat_lt p l.len) (take l.place-index l.places)
