-- The views that are kept make what is kept of the column.
use Rattle.std.proofs.Common.{refl, ◌∙◌}
use Rattle.vx_model.specs.Valid.{nullability_by}
use Rattle.vx_model.specs.Text.{stored_texts}
use Rattle.vx_model.specs.VarBinView.{view_texts}
use Rattle.vx_model.proofs.Steps.{fitting-filter}
use Rattle.vx_model.proofs.Texts.{fits-views, items-texts}
use Rattle.vx_model.proofs.TextSteps.{is_filter-texts}
use Rattle.vx_column.specs.Validity.{valid_of}
use Rattle.vx_stored.proofs.varbinview.VarBinViewArrayStoredRows.filter.Goals as goal

pub filter_views-requires : goal.filter_views-requires
filter_views-requires c =
    let p = c.args.self.now in let items = (stored_texts (view_texts p)).items in let w = valid_of c.args.valid in
    record {
      long = c.requires.long ∙ items-texts (view_texts p);
      fitting = fitting-filter items p.valid w (nullability_by p.valid) _ refl (fits-views p c.views.ensures.valid) c.args.mask.now.bits.bits c.requires.long c.requires.left;
    }

pub returns : goal.returns
returns c =
    let p = c.args.self.now in let w = valid_of c.args.valid in let made = c.in_ok-kept.ensures in
    rw c.into_array.ensures
    (is_filter-texts (view_texts p) (view_texts c.in_ok-kept.kept) w refl refl made.kind made.valid (fits-views p c.views.ensures.valid) c.args.mask.now.bits.bits c.requires.long made.texts c.requires.left c.requires.plain)
