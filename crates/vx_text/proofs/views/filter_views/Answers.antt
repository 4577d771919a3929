-- The views of the rows that are kept are sound, and stand for their texts.
use Rattle.std.proofs.Common.{◌≡◌, length, ap, ◌∙◌, arith}
use Rattle.std.specs.List.{items_where_true}
use Rattle.vx_types.specs.Text.{is_view}
use Rattle.vx_model.specs.Valid.{is_fitting}
use Rattle.vx_model.specs.VarBinView.{ViewParts, view_texts, views_with}
use Rattle.vx_model.proofs.Texts.{sound-views, texts-views}
use Rattle.vx_column.specs.Validity.{valid_of}
use Rattle.vx_text.proofs.KeptViews.{texts-kept}
use Rattle.vx_text.proofs.views.filter_views.Goals as goal
use Rattle.vx_lemmas.proofs.Tests.{all-kept}
use Rattle.vx_mask.proofs.RankedItems.{length-items_where_true}

pub filter_slice-requires : goal.filter_slice-requires
filter_slice-requires c =
    omega (arith, c.requires.long, texts-views c.args.array.now, ap length (c.as_slice.ensures ∙ c.views.ensures.value))

pub with_views-requires-clause-sound : goal.with_views-requires-clause-sound
with_views-requires-clause-sound c =
    let p = c.args.array.now in let mask = c.args.mask.now.bits.bits in
    rw (c.in_ok-views.ensures ∙ c.in_ok-kept.ensures ∙ ap (items_where_true mask) (c.as_slice.ensures ∙ c.views.ensures.value))
    (all-kept (is_view p.buffers) mask p.views (sound-views p c.views.ensures.valid))

pub with_views-requires-clause-fitting : goal.with_views-requires-clause-fitting
with_views-requires-clause-fitting c =
    let p = c.args.array.now in let mask = c.args.mask.now.bits.bits in
    let long : length mask ≡ length p.views = c.requires.long ∙ texts-views p in
    rw (c.in_ok-views.ensures ∙ c.in_ok-kept.ensures ∙ ap (items_where_true mask) (c.as_slice.ensures ∙ c.views.ensures.value))
    (ap (is_fitting (valid_of c.args.validity)) (length-items_where_true mask p.views long) ∙ c.requires.fitting)

pub returns : goal.returns
returns c =
    let p = c.args.array.now in let mask = c.args.mask.now.bits.bits in
    record {
      kind = ap (λ (q : ViewParts). q.kind) c.with_views.ensures;
      buffers = ap (λ (q : ViewParts). q.buffers) c.with_views.ensures;
      texts = ap (λ (q : ViewParts). (view_texts q).texts)
          (c.with_views.ensures
          ∙ ap (λ l. views_with p l (valid_of c.args.validity))
          (c.in_ok-views.ensures ∙ c.in_ok-kept.ensures ∙ ap (items_where_true mask) (c.as_slice.ensures ∙ c.views.ensures.value)))
          ∙ texts-kept p.buffers mask p.views;
      valid = ap (λ (q : ViewParts). q.valid) c.with_views.ensures;
    }
