-- The items of one span more.
use Rattle.std.proofs.Common.{◌≡◌, ◌*◌, ◌++◌, List, get_or, take, ap, ap₂, sym, ◌∙◌, refl, arith}
use Rattle.vx_arrow_interleave.specs.Given.{fixed_items}
use Rattle.vx_arrow_interleave.specs.Spots.{Spot, run_of, span_spots, spots}
use Rattle.vx_arrow_interleave.proofs.SpanItems.{bare_spots}
use Rattle.vx_arrow_interleave.proofs.SpotItems.{fixed_append, fixed_none, fixed_run}
use Rattle.vx_arrow_interleave.proofs.SpotLists.{no_span, spots_none, spots_take}
use Rattle.vx_arrow_interleave.proofs.items.fixed_items_of.Goals as goal

pub loop-k-init : goal.loop-k-init
loop-k-init c = bare_spots _ c.new-list.ensures.items ∙ sym (fixed_none _ _ (spots_none c.args.places.now))

pub loop-k-preserved : goal.loop-k-preserved
loop-k-preserved c =
    let w = c.args.width in
    let ss = c.args.places.now in
    let k = c.loop-k.k in
    let s = get_or ss k no_span in
    let start : c.in-Some.start ≡ s.start * w = omega (arith, c.in-Some.ensures) in
    let len : c.in-Some-checked_mul.len ≡ s.len * w = omega (arith, c.in-Some-checked_mul.ensures) in
    c.in_ok-push_span.ensures
    ∙ ap₂ (λ (a : List Spot) (b : List Spot). a ++ b) c.loop-k.invariant (ap₂ (run_of s.source) start len ∙ sym (fixed_run w s.source s.start s.len))
    ∙ sym (fixed_append w (spots (take k ss)) (span_spots s)) ∙ ap (fixed_items w) (sym (spots_take ss k s c.loop-k-test.true refl))
