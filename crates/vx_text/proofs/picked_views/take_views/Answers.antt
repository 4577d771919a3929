-- Views between the column's own offsets stand for its texts.
use Rattle.std.proofs.Common.{ℕ, [], ◌∷◌, List, length, ap, ap₂, ◌∙◌, arith}
use Rattle.std.specs.Prelude.{map}
use Rattle.vx_types.specs.Text.{view_text}
use Rattle.vx_offsets.specs.Offsets.{offset_positions}
use Rattle.vx_model.specs.Numbers.{integers_of}
use Rattle.vx_model.specs.Records.{RecordParts}
use Rattle.vx_model.specs.VarBinView.{ViewParts}
use Rattle.vx_model.proofs.Texts.{integers-varbin, offsets-varbin}
use Rattle.vx_column.specs.Validity.{valid_of}
use Rattle.vx_text.specs.Views.{text_view}
use Rattle.vx_text.proofs.CutOffsets.{end-within, picked_rows}
use Rattle.vx_text.proofs.TextViews.{sound-taken, texts-taken}
use Rattle.vx_text.proofs.picked_views.take_views.Goals as goal

pub views_in-requires-clause-integers : goal.views_in-requires-clause-integers
views_in-requires-clause-integers c =
    rw c.offsets-offsets.ensures.value (integers-varbin c.args.array.now c.offsets-offsets.ensures.valid)

pub views_in-requires-clause-offsets : goal.views_in-requires-clause-offsets
views_in-requires-clause-offsets c =
    rw (c.offsets-offsets.ensures.value, c.as_slice.ensures, c.bytes-bytes.ensures.value)
    (offsets-varbin c.args.array.now c.offsets-offsets.ensures.valid)

pub views_in-requires-clause-near : goal.views_in-requires-clause-near
views_in-requires-clause-near c = rw c.offsets-offsets.ensures.value c.requires.near

pub views_in-requires-clause-bound : goal.views_in-requires-clause-bound
views_in-requires-clause-bound c =
    let p = c.args.array.now in
    omega (arith, end-within p 0 c.args.picks.now.bound c.offsets-offsets.ensures.valid c.requires.fits.bound, ap (λ (q : RecordParts). length q.records) c.offsets-offsets.ensures.value)

pub of-requires : goal.of-requires
of-requires c =
    let p = c.args.array.now in let picks = c.args.picks.now.picks in
    let sound = c.offsets-offsets.ensures.valid in
    let rows = picked_rows p picks c.bound.result sound (omega (arith, c.bound.ensures.value, c.requires.fits.bound)) c.bound.ensures.below in
    let text = c.as_slice.ensures ∙ c.bytes-bytes.ensures.value in
    let views = c.in_ok-views.ensures ∙ c.in_ok-taken.ensures ∙ ap₂ (λ (o : RecordParts) (t : List ℕ). map (text_view (offset_positions (integers_of o)) t) picks) c.offsets-offsets.ensures.value text in
    sound-taken p picks c.in_ok-views.views c.in_ok-buffers.buffers.items sound rows views (c.in_ok-buffers.ensures ∙ ap (λ t. t ∷ []) c.bytes-bytes.ensures.value) c.kind.result (valid_of c.args.validity) c.requires.fits.fitting

pub returns : goal.returns
returns c =
    let p = c.args.array.now in let picks = c.args.picks.now.picks in
    let sound = c.offsets-offsets.ensures.valid in
    let rows = picked_rows p picks c.bound.result sound (omega (arith, c.bound.ensures.value, c.requires.fits.bound)) c.bound.ensures.below in
    let text = c.as_slice.ensures ∙ c.bytes-bytes.ensures.value in
    let views = c.in_ok-views.ensures ∙ c.in_ok-taken.ensures ∙ ap₂ (λ (o : RecordParts) (t : List ℕ). map (text_view (offset_positions (integers_of o)) t) picks) c.offsets-offsets.ensures.value text in
    record {
      kind = ap (λ (q : ViewParts). q.kind) c.of.ensures ∙ c.kind.ensures;
      buffers = ap (λ (q : ViewParts). q.buffers) c.of.ensures ∙ c.in_ok-buffers.ensures ∙ ap (λ t. t ∷ []) c.bytes-bytes.ensures.value;
      texts = ap (λ (q : ViewParts). map (view_text q.buffers) q.views) c.of.ensures
          ∙ texts-taken p picks c.in_ok-views.views c.in_ok-buffers.buffers.items sound rows views (c.in_ok-buffers.ensures ∙ ap (λ t. t ∷ []) c.bytes-bytes.ensures.value);
      valid = ap (λ (q : ViewParts). q.valid) c.of.ensures;
    }
