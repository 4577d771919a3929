-- One place more.
use Rattle.std.proofs.Common.{◌≡◌, ◌+◌, ◌-◌, ◌++◌, ap, sym, ◌∙◌, append_assoc, arith, [], ◌∷◌}
use Rattle.std.specs.List.{range_with_len}
use Rattle.vx_runs.proofs.RunPlaces.{range_more}
use Rattle.vx_runs.proofs.runs.push_range.Goals as goal

pub loop-place-preserved : goal.loop-place-preserved
loop-place-preserved c =
    let before = c.loop-place.invariant in
    let s = c.args.start in
    let low = c.loop-place.auto.place in
    let next : c.loop-place.place + 1 - s ≡ c.loop-place.place - s + 1 = omega arith in
    let more = ap (range_with_len s) next ∙ range_more s (c.loop-place.place - s) c.loop-place.place (omega arith) in
    let items = c.push_reserved.ensures.items ∙ ap (λ l. l ++ c.loop-place.place ∷ []) before.0 ∙ append_assoc c.args.places.now.items (range_with_len s (c.loop-place.place - s)) (c.loop-place.place ∷ []) ∙ ap (λ l. c.args.places.now.items ++ l) (sym more) in
    (items, omega (arith, before.1, c.loop-place-test.true, c.push_reserved.ensures.len, c.push_reserved.ensures.capacity))
