-- The offsets cut the bytes into the texts.
use Rattle.std.proofs.Common.{◌≡◌, true, length, ap, ◌∙◌}
use Rattle.vx_model.specs.Valid.{is_fitting}
use Rattle.vx_model.specs.VarBin.{VarBinParts, varbin_texts}
use Rattle.vx_offsets.specs.Offsets.{lists_at}
use Rattle.vx_column.specs.Validity.{valid_of}
use Rattle.vx_offsets.specs.Cut.{is_cut}
use Rattle.vx_text.proofs.BuiltTexts.{built, built_texts}
use Rattle.vx_text.proofs.texts.Texts.finish.Goals as goal

pub of-requires : goal.of-requires
of-requires c =
    let os = c.args.self.offsets.numbers in let b = c.in_ok-shared.shared in let v = valid_of c.args.validity in
    let cut : is_cut os (length b) ≡ true = ap (λ l. is_cut os (length l)) c.in_ok-shared.ensures ∙ c.requires.cut in
    let fit : is_fitting v (length (lists_at os b)) ≡ true = ap (λ l. is_fitting v (length (lists_at os l))) c.in_ok-shared.ensures ∙ c.requires.fitting in
    built c.args.kind c.in_ok-cut.cut b v os c.in_ok-cut.ensures.numbers c.in_ok-cut.ensures.int c.in_ok-cut.ensures.valid cut fit

pub returns-clause-kind : goal.returns-clause-kind
returns-clause-kind c = ap (λ (q : VarBinParts). q.kind) c.of.ensures

pub returns-clause-offsets : goal.returns-clause-offsets
returns-clause-offsets c = ap (λ (q : VarBinParts). q.offsets.kind) c.of.ensures ∙ c.in_ok-cut.ensures.kind

pub returns-clause-bytes : goal.returns-clause-bytes
returns-clause-bytes c = ap (λ (q : VarBinParts). q.bytes) c.of.ensures ∙ c.in_ok-shared.ensures

pub returns-clause-texts : goal.returns-clause-texts
returns-clause-texts c =
    let os = c.args.self.offsets.numbers in
    ap (λ (q : VarBinParts). (varbin_texts q).texts) c.of.ensures
    ∙ built_texts c.args.kind c.in_ok-cut.cut c.in_ok-shared.shared (valid_of c.args.validity) os c.in_ok-cut.ensures.numbers
    ∙ ap (lists_at os) c.in_ok-shared.ensures

pub returns-clause-valid : goal.returns-clause-valid
returns-clause-valid c = ap (λ (q : VarBinParts). q.valid) c.of.ensures
