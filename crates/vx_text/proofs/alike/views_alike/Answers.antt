-- One view in each place stands for one text in each.
use Rattle.std.proofs.Common.{◌≡◌, [], ◌∷◌, List, ℕ, ap, ap₂, ◌∙◌}
use Rattle.std.specs.Prelude.{map, replicate}
use Rattle.std.proofs.lemmas.List.{length-replicate}
use Rattle.vx_types.specs.Text.{view_of, view_text}
use Rattle.vx_types.specs.declared.text.BinaryView.{BinaryView}
use Rattle.vx_model.specs.Valid.{is_fitting}
use Rattle.vx_model.specs.VarBinView.{ViewParts}
use Rattle.vx_column.specs.Validity.{valid_of}
use Rattle.vx_text.proofs.KeptViews.{sound-as}
use Rattle.vx_text.proofs.TextViews.{sound-alike, texts-alike}
use Rattle.vx_text.proofs.alike.views_alike.Goals as goal

pub of-requires : goal.of-requires
of-requires c =
    let b = c.args.value.now in let n = c.args.len in
    let one : c.make_view-view.result ≡ view_of b 0 0 = c.make_view-view.ensures ∙ ap (λ t. view_of t 0 0) c.as_slice.ensures in
    let views = c.in_ok-views.ensures ∙ ap (replicate n) one in
    sound-as c.args.kind c.in_ok-views.views (replicate n (view_of b 0 0)) c.in_ok-buffers.buffers.items (b ∷ []) (valid_of c.args.validity) views c.in_ok-buffers.ensures
    (ap (is_fitting (valid_of c.args.validity)) (length-replicate n (view_of b 0 0)) ∙ c.requires.fitting) (sound-alike n b)

pub returns-clause-kind : goal.returns-clause-kind
returns-clause-kind c = ap (λ (q : ViewParts). q.kind) c.of.ensures

pub returns-clause-texts : goal.returns-clause-texts
returns-clause-texts c =
    let b = c.args.value.now in let n = c.args.len in
    let one : c.make_view-view.result ≡ view_of b 0 0 = c.make_view-view.ensures ∙ ap (λ t. view_of t 0 0) c.as_slice.ensures in
    let views = c.in_ok-views.ensures ∙ ap (replicate n) one in
    ap (λ (q : ViewParts). map (view_text q.buffers) q.views) c.of.ensures
    ∙ ap₂ (λ (x : List (List ℕ)) (l : List BinaryView). map (view_text x) l) c.in_ok-buffers.ensures views
    ∙ texts-alike n b

pub returns-clause-valid : goal.returns-clause-valid
returns-clause-valid c = ap (λ (q : ViewParts). q.valid) c.of.ensures
