-- The views of the rows that are taken are sound, and stand for their texts.
use Rattle.std.proofs.Common.{List, length, ap, ap₂, ◌∙◌, arith}
use Rattle.vx_take.specs.Picks.{at}
use Rattle.vx_types.specs.declared.text.BinaryView.{BinaryView}
use Rattle.vx_model.specs.Valid.{is_fitting}
use Rattle.vx_model.specs.VarBinView.{ViewParts, view_texts, views_with}
use Rattle.vx_model.proofs.Takes.{length-at}
use Rattle.vx_model.proofs.Texts.{sound-views, texts-views}
use Rattle.vx_column.specs.Validity.{valid_of}
use Rattle.vx_text.specs.Views.{empty_view}
use Rattle.vx_text.proofs.KeptViews.{sound-at, texts-at}
use Rattle.vx_text.proofs.views.gather_views.Goals as goal

pub gather-requires : goal.gather-requires
gather-requires c =
    omega (arith, c.requires.bound, texts-views c.args.array.now, ap length (c.as_slice.ensures ∙ c.views.ensures.value))

pub with_views-requires-clause-sound : goal.with_views-requires-clause-sound
with_views-requires-clause-sound c =
    let p = c.args.array.now in let picks = c.args.picks.now.picks in
    rw (c.in_ok-views.ensures ∙ c.in_ok-taken.ensures ∙ ap₂ (λ (x : BinaryView) (l : List BinaryView). at x l picks) c.make_view-empty.ensures (c.as_slice.ensures ∙ c.views.ensures.value))
    (sound-at p.buffers p.views picks (sound-views p c.views.ensures.valid))

pub with_views-requires-clause-fitting : goal.with_views-requires-clause-fitting
with_views-requires-clause-fitting c =
    let p = c.args.array.now in let picks = c.args.picks.now.picks in
    rw (c.in_ok-views.ensures ∙ c.in_ok-taken.ensures ∙ ap₂ (λ (x : BinaryView) (l : List BinaryView). at x l picks) c.make_view-empty.ensures (c.as_slice.ensures ∙ c.views.ensures.value))
    (ap (is_fitting (valid_of c.args.validity)) (length-at empty_view p.views picks) ∙ c.requires.fitting)

pub returns : goal.returns
returns c =
    let p = c.args.array.now in let picks = c.args.picks.now.picks in
    record {
      kind = ap (λ (q : ViewParts). q.kind) c.with_views.ensures;
      buffers = ap (λ (q : ViewParts). q.buffers) c.with_views.ensures;
      texts = ap (λ (q : ViewParts). (view_texts q).texts)
          (c.with_views.ensures
          ∙ ap (λ l. views_with p l (valid_of c.args.validity))
          (c.in_ok-views.ensures ∙ c.in_ok-taken.ensures ∙ ap₂ (λ (x : BinaryView) (l : List BinaryView). at x l picks) c.make_view-empty.ensures (c.as_slice.ensures ∙ c.views.ensures.value)))
          ∙ texts-at p.buffers p.views picks;
      valid = ap (λ (q : ViewParts). q.valid) c.with_views.ensures;
    }
