-- The places of one span more.
use Rattle.std.proofs.Common.{◌≡◌, ◌++◌, List, get_or, take, ap, ap₂, sym, subst, ◌∙◌, refl}
use Rattle.vx_arrow_image.specs.Image.{parts_of}
use Rattle.vx_arrow_interleave.specs.Given.{places}
use Rattle.vx_arrow_interleave.specs.Sources.{AreRows}
use Rattle.vx_arrow_interleave.specs.Spots.{Spot, span_spots, spots}
use Rattle.vx_arrow_interleave.proofs.SourceRows.{more_rows, no_places, no_rows, places_append, rows_placed}
use Rattle.vx_arrow_interleave.proofs.SpanItems.{bare_spots}
use Rattle.vx_arrow_interleave.proofs.SpotLists.{no_span, one_span, spots_none, spots_take}
use Rattle.vx_arrow_interleave.proofs.sources.places_of.Goals as goal

pub loop-k-init : goal.loop-k-init
loop-k-init c =
    let none = spots_none c.args.spans.now in
    record {
      places = bare_spots _ c.new-own.ensures.items ∙ sym (no_places _ _ none);
      rows = no_rows _ _ none;
    }

pub loop-k-preserved : goal.loop-k-preserved
loop-k-preserved c =
    let ps = parts_of c.args.sources.now in
    let ss = c.args.spans.now in
    let k = c.loop-k.k in
    let s = get_or ss k no_span in
    let more = spots_take ss k s c.loop-k-test.true refl in
    let own = c.in_ok-placed.field-0 in
    let one : places ps (span_spots s) ≡ span_spots own = ap (places ps) (sym (one_span s)) ∙ c.in_ok-placed.ensures.places ∙ one_span own in
    record {
      places = c.in_ok-push_span.ensures ∙ ap₂ (λ (a : List Spot) (b : List Spot). a ++ b) c.loop-k.invariant.places (sym one) ∙ sym (places_append ps (spots (take k ss)) (span_spots s)) ∙ ap (places ps) (sym more);
      rows = more_rows ps (spots (take k ss)) (span_spots s) _ more c.loop-k.invariant.rows (subst (AreRows ps) (one_span s) c.in_ok-placed.ensures.rows);
    }

pub returns-clause-within : goal.returns-clause-within
returns-clause-within c =
    let ps = parts_of c.args.sources.now in
    let t = c.loop-k.invariant in
    rows_placed ps _ _ t.places t.rows
