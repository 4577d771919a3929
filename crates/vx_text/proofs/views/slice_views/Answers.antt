-- The views of the rows that are left are sound, and stand for their texts.
use Rattle.std.proofs.Common.{◌≤◌, length, slice_range, ap, ◌∙◌, arith}
use Rattle.vx_types.specs.Text.{is_view}
use Rattle.vx_model.specs.Valid.{is_fitting}
use Rattle.vx_model.specs.VarBinView.{ViewParts, view_texts, views_with}
use Rattle.vx_model.proofs.Items.{length-slice_range}
use Rattle.vx_model.proofs.Texts.{sound-views, texts-views}
use Rattle.vx_column.specs.Validity.{valid_of}
use Rattle.vx_text.proofs.KeptViews.{texts-slice}
use Rattle.vx_text.proofs.views.slice_views.Goals as goal
use Rattle.vx_lemmas.proofs.Tests.{all-slice}

pub slice-requires-clause-within : goal.slice-requires-clause-within
slice-requires-clause-within c =
    omega (arith, c.requires.within, texts-views c.args.array.now, ap length c.views.ensures.value)

pub with_views-requires-clause-sound : goal.with_views-requires-clause-sound
with_views-requires-clause-sound c =
    let p = c.args.array.now in let s = c.args.start in let e = c.args.end in
    rw (c.slice.ensures ∙ ap (λ l. slice_range l s e) c.views.ensures.value)
    (all-slice (is_view p.buffers) p.views s e (sound-views p c.views.ensures.valid))

pub with_views-requires-clause-fitting : goal.with_views-requires-clause-fitting
with_views-requires-clause-fitting c =
    let p = c.args.array.now in let s = c.args.start in let e = c.args.end in
    let within : e ≤ length p.views = omega (arith, c.requires.within, texts-views p) in
    rw (c.slice.ensures ∙ ap (λ l. slice_range l s e) c.views.ensures.value)
    (ap (is_fitting (valid_of c.args.validity)) (length-slice_range p.views s e c.requires.ordered within) ∙ c.requires.fitting)

pub returns : goal.returns
returns c =
    let p = c.args.array.now in let s = c.args.start in let e = c.args.end in
    record {
      kind = ap (λ (q : ViewParts). q.kind) c.with_views.ensures;
      buffers = ap (λ (q : ViewParts). q.buffers) c.with_views.ensures;
      texts = ap (λ (q : ViewParts). (view_texts q).texts)
          (c.with_views.ensures
          ∙ ap (λ l. views_with p l (valid_of c.args.validity)) (c.slice.ensures ∙ ap (λ l. slice_range l s e) c.views.ensures.value))
          ∙ texts-slice p.buffers p.views s e;
      valid = ap (λ (q : ViewParts). q.valid) c.with_views.ensures;
    }
