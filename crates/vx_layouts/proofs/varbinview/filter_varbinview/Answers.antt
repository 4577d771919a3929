-- The views that are kept make what is kept of the column.
use Rattle.std.proofs.Common.{◌≡◌, length, refl, sym, ap₂, ◌∙◌}
use Rattle.std.specs.List.{items_where_true}
use Rattle.std.proofs.lemmas.Result.{IfOk-weaker}
use Rattle.vx_model.specs.Valid.{is_fitting, nullability_by}
use Rattle.vx_model.specs.Text.{stored_texts}
use Rattle.vx_model.specs.VarBinView.{view_texts}
use Rattle.vx_model.proofs.Steps.{fitting-filter}
use Rattle.vx_model.proofs.Texts.{fits-views, fitting-views, items-texts, length-views, rows-views}
use Rattle.vx_model.proofs.TextSteps.{is_filter-texts}
use Rattle.vx_column.specs.Validity.{valid_of}
use Rattle.vx_text.specs.Left.{LeavesViews}
use Rattle.vx_layouts.proofs.varbinview.filter_varbinview.Goals as goal

pub filter_validity-requires : goal.filter_validity-requires
filter_validity-requires c =
    let p = c.args.array.now in let v = c.validity.ensures in
    ap₂ is_fitting v.value (c.requires ∙ length-views p v.valid) ∙ fitting-views p v.valid

pub filter_views-requires : goal.filter_views-requires
filter_views-requires c =
    let p = c.args.array.now in let v = c.validity.ensures in let items = (stored_texts (view_texts p)).items in let mask = c.args.selection_mask.now.bits.bits in
    let long : length mask ≡ length items = c.requires ∙ rows-views p v.valid ∙ sym (items-texts (view_texts p)) in
    let left = rw (v.value, long) at c.in_ok-validity.ensures.left in
    record {
      long = c.requires ∙ rows-views p v.valid;
      fitting = fitting-filter items p.valid (valid_of c.in_ok-validity.validity) (nullability_by p.valid) _ refl (fits-views p v.valid) mask long left;
    }

pub returns : goal.returns
returns c =
    let p = c.args.array.now in let v = c.validity.ensures in let items = (stored_texts (view_texts p)).items in let mask = c.args.selection_mask.now.bits.bits in
    let w = valid_of c.in_ok-validity.validity in
    let long : length mask ≡ length items = c.requires ∙ rows-views p v.valid ∙ sym (items-texts (view_texts p)) in
    let left = rw (v.value, long) at c.in_ok-validity.ensures.left in
    let plain = rw v.value at c.in_ok-validity.ensures.plain in
    IfOk-weaker c.filter_views.result (LeavesViews p.kind p.buffers (items_where_true mask (view_texts p).texts) w) _
    (λ a made. is_filter-texts (view_texts p) (view_texts a) w refl refl made.kind made.valid (fits-views p v.valid) mask long made.texts left plain)
    c.filter_views.ensures
