-- The views at the picks make the column at the picks.
use Rattle.std.proofs.Common.{refl}
use Rattle.vx_model.specs.Valid.{nullability_by}
use Rattle.vx_model.specs.VarBinView.{view_texts}
use Rattle.vx_model.proofs.Texts.{fits-views}
use Rattle.vx_model.proofs.TextSteps.{is_take-texts}
use Rattle.vx_column.specs.Validity.{valid_of}
use Rattle.vx_stored.proofs.varbinview.VarBinViewArrayStoredRows.take.Goals as goal

pub returns : goal.returns
returns c =
    let p = c.args.self.now in let w = valid_of c.args.valid in let made = c.in_ok-taken.ensures in
    rw c.into_array.ensures
    (is_take-texts (view_texts p) (view_texts c.in_ok-taken.taken) w refl refl made.kind made.valid (fits-views p c.views.ensures.valid) c.args.picks.now.picks (nullability_by w) made.texts c.requires.left)
