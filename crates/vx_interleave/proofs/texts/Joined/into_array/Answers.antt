-- The offsets cut the bytes into the texts.
use Rattle.std.proofs.Common.{ap, ◌∙◌}
use Rattle.vx_model.specs.Column.{Column}
use Rattle.vx_model.specs.VarBin.{VarBinParts, varbin_column}
use Rattle.vx_text.proofs.TextColumns.{text_rows, text_sound}
use Rattle.vx_interleave.proofs.texts.Joined.into_array.Goals as goal

pub of-requires : goal.of-requires
of-requires c =
    let ends = c.in_ok-ends.ensures in
    text_sound c.args.kind c.in_ok-ends.ends _ c.args.self.bytes.items _ c.args.self.offsets.numbers c.in_ok-bytes.ensures ends.numbers ends.int ends.valid c.requires.cut c.requires.fitting

pub returns-clause-rows : goal.returns-clause-rows
returns-clause-rows c =
    ap (λ (k : Column). k.rows) c.into_array.ensures
    ∙ ap (λ (p : VarBinParts). (varbin_column p).rows) c.of.ensures
    ∙ text_rows c.args.kind c.in_ok-ends.ends _ c.args.self.bytes.items _ c.args.self.offsets.numbers c.in_ok-bytes.ensures c.in_ok-ends.ensures.numbers
