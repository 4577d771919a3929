-- The sliced texts make the sliced column.
use Rattle.std.proofs.Common.{refl}
use Rattle.vx_model.specs.VarBin.{varbin_texts}
use Rattle.vx_model.proofs.Texts.{fits-varbin}
use Rattle.vx_model.proofs.TextSteps.{is_slice-texts}
use Rattle.vx_column.specs.Validity.{valid_of}
use Rattle.vx_stored.proofs.varbin.VarBinArrayStoredRows.slice.Goals as goal

pub returns : goal.returns
returns c =
    let p = c.args.self.now in let w = valid_of c.args.valid in let made = c.slice_varbin.ensures in
    rw c.into_array.ensures
    (is_slice-texts (varbin_texts p) (varbin_texts c.slice_varbin.result) w refl refl made.kind made.valid (fits-varbin p c.bytes.ensures.valid) c.args.start c.args.end c.requires.ordered c.requires.within made.texts c.requires.left c.requires.plain)
