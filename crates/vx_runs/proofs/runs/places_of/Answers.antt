-- The places of one run more.
use Rattle.std.proofs.Common.{◌≡◌, ℕ, List, ◌++◌, ◌-◌, get_or, ap₂, sym, ◌∙◌, refl, arith, rules}
use Rattle.std.specs.List.{range_with_len}
use Rattle.vx_runs.proofs.RunPlaces.{more_places, no_places, no_run}
use Rattle.vx_runs.proofs.runs.places_of.Goals as goal

pub loop-k-init : goal.loop-k-init
loop-k-init c = c.new-places.ensures.items ∙ sym (no_places c.args.runs.now)

pub loop-k-preserved : goal.loop-k-preserved
loop-k-preserved c =
    let rs = c.args.runs.now in
    let r = get_or rs c.loop-k.k no_run in
    let end = c.in_ok-end.end in
    let pushed : c.push_range.new.places.items ≡ c.loop-k.places.items ++ range_with_len r.start (end - r.start) = search rules in
    let size : end - r.start ≡ r.len = omega (arith, c.in_ok-end.ensures) in
    pushed ∙ ap₂ (λ (l : List ℕ) (n : ℕ). l ++ range_with_len r.start n) c.loop-k.invariant size ∙ sym (more_places rs c.loop-k.k r c.loop-k-test.true refl)
