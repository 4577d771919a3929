-- One span more.
use Rattle.std.proofs.Common.{◌≡◌, ◌+◌, ℕ, List, get_or, length, take, ap, sym, ◌∙◌, refl, subst, arith}
use Rattle.vx_arrow_image.specs.Image.{parts_of}
use Rattle.vx_arrow_interleave.specs.Spots.{Spot, spots}
use Rattle.vx_arrow_interleave.specs.TextViews.{AreViews, ViewsTo}
use Rattle.vx_arrow_interleave.proofs.SpotLists.{no_span, spots_all, spots_len, spots_none, spots_same, spots_within}
use Rattle.vx_arrow_interleave.proofs.ViewPuts.{as_views, views_none}
use Rattle.vx_arrow_interleave.proofs.text_views.write_views.Goals as goal
use Rattle.vx_arrow_interleave.proofs.text_views.write_views.Goals.{then-len-ne0, else-len-ne0}

pub loop-k-init : goal.loop-k-init
loop-k-init c = record {
  first = ap (λ (l : List Spot). length l) (sym (spots_none c.args.places.now));
  views = views_none _ _ _ _ _ (spots_none c.args.places.now) c.start_anew.ensures.clear;
}

pub overflow_add-first : goal.overflow_add-first
overflow_add-first c =
    let ss = c.args.places.now in
    omega (arith, spots_within ss c.loop-k.k (get_or ss c.loop-k.k no_span) c.loop-k-test.true refl, c.loop-k.invariant.first, c.requires.room)

pub loop-k-preserved : goal.loop-k-preserved
loop-k-preserved c =
    let ps = parts_of c.args.sources.now in
    let ss = c.args.places.now in
    let k = c.loop-k.k in
    let r = get_or ss k no_span in
    let n = length c.args.starts.now in
    elim c.if-len-ne0.branch [
      | then-len-ne0 w ↦
          let many : length c.loop-k.starts ≡ n = omega (arith, c.loop-k.auto.starts, c.start_anew.ensures.many) in
          record {
            first = w.first-is ∙ ap (λ m. m + r.len) c.loop-k.invariant.first ∙ sym (spots_len ss k r c.loop-k-test.true refl);
            views = as_views n ps (spots (take (k + 1) ss)) (spots (take (k + 1) ss)) _ _ _ _ refl w.starts-is w.out-is (subst (λ (m : ℕ). ViewsTo m ps (spots (take (k + 1) ss)) w.put_views.new.starts w.put_views.new.out) many w.put_views.ensures.views);
          }
      | else-len-ne0 w ↦
          let same = spots_same ss k r c.loop-k-test.true refl (omega (arith, w.if-len-ne0.false)) in
          record {
            first = w.first-is ∙ c.loop-k.invariant.first ∙ ap (λ (l : List Spot). length l) (sym same);
            views = as_views n ps (spots (take k ss)) (spots (take (k + 1) ss)) _ _ _ _ same w.starts-is w.out-is c.loop-k.invariant.views;
          }
    ]

pub returns : goal.returns
returns c = subst (λ (l : List Spot). AreViews (parts_of c.args.sources.now) l c.loop-k.out) (spots_all c.args.places.now c.loop-k.k (omega arith)) c.loop-k.invariant.views.views
