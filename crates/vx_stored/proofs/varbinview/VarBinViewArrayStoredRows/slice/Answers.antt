-- The sliced texts make the sliced column.
use Rattle.std.proofs.Common.{refl}
use Rattle.vx_model.specs.VarBinView.{view_texts}
use Rattle.vx_model.proofs.Texts.{fits-views}
use Rattle.vx_model.proofs.TextSteps.{is_slice-texts}
use Rattle.vx_column.specs.Validity.{valid_of}
use Rattle.vx_stored.proofs.varbinview.VarBinViewArrayStoredRows.slice.Goals as goal

pub returns : goal.returns
returns c =
    let p = c.args.self.now in let w = valid_of c.args.valid in let made = c.slice_views.ensures in
    rw c.into_array.ensures
    (is_slice-texts (view_texts p) (view_texts c.slice_views.result) w refl refl made.kind made.valid (fits-views p c.views.ensures.valid) c.args.start c.args.end c.requires.ordered c.requires.within made.texts c.requires.left c.requires.plain)
