-- The texts at the picks make the column at the picks.
use Rattle.std.proofs.Common.{[], length, refl, sym}
use Rattle.vx_model.specs.Valid.{nullability_by}
use Rattle.vx_model.specs.VarBin.{varbin_texts}
use Rattle.vx_model.specs.VarBinView.{view_texts}
use Rattle.vx_model.proofs.Steps.{fitting-take}
use Rattle.vx_model.proofs.Takes.{length-at}
use Rattle.vx_model.proofs.Texts.{fits-varbin}
use Rattle.vx_model.proofs.TextSteps.{is_take-kept, is_take-texts}
use Rattle.vx_column.specs.Validity.{valid_of}
use Rattle.vx_stored.proofs.varbin.VarBinArrayStoredRows.take.Goals as goal

pub returns-then-last_offset-le-MAX_BUFFER_LEN : goal.returns-then-last_offset-le-MAX_BUFFER_LEN
returns-then-last_offset-le-MAX_BUFFER_LEN c =
    let p = c.args.self.now in let w = valid_of c.args.valid in let made = c.in_ok-views.ensures in
    rw c.into_array.ensures
    (is_take-texts (varbin_texts p) (view_texts c.in_ok-views.views) w refl refl made.kind made.valid (fits-varbin p c.bytes.ensures.valid) c.args.picks.now.picks (nullability_by w) made.texts c.requires.left)

pub returns : goal.returns
returns c =
    let p = c.args.self.now in let w = valid_of c.args.valid in let made = c.in_ok-texts.ensures in
    let picks = c.args.picks.now.picks in
    let fits = fitting-take p.valid w (nullability_by w) _ picks c.requires.left in
    rw c.into_array-2.ensures
    (is_take-kept (varbin_texts p) (varbin_texts c.in_ok-texts.texts) w refl refl made.kind made.valid (fits-varbin p c.bytes.ensures.valid) picks (nullability_by w) (length picks) (sym (length-at [] (varbin_texts p).texts picks)) fits made.texts c.requires.left)
