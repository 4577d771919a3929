-- The offsets of the rows that are left cut their texts.
use Rattle.std.proofs.Common.{◌+◌, List, ℕ, length, slice_range, ap, ap₂, ◌∙◌, arith}
use Rattle.vx_offsets.specs.Offsets.{lists_at, offset_positions}
use Rattle.vx_model.specs.Numbers.{integers_of}
use Rattle.vx_model.specs.Records.{RecordParts, records_with}
use Rattle.vx_model.specs.Valid.{non_nullable}
use Rattle.vx_model.specs.VarBin.{VarBinParts}
use Rattle.vx_column.specs.Validity.{valid_of}
use Rattle.vx_text.proofs.CutOffsets.{end-within, sound-as_cut, texts-cut}
use Rattle.vx_text.proofs.varbin.slice_varbin.Goals as goal

pub slice_offsets-cut-requires-clause-within : goal.slice_offsets-cut-requires-clause-within
slice_offsets-cut-requires-clause-within c =
    omega (arith, end-within c.args.array.now c.args.start c.args.end c.offsets.ensures.valid c.requires.within, ap (λ (q : RecordParts). length q.records) c.offsets.ensures.value)

pub of-requires : goal.of-requires
of-requires c =
    let p = c.args.array.now in let s = c.args.start in let e = c.args.end in
    let cut = c.slice_offsets-cut.ensures ∙ ap (λ (q : RecordParts). records_with q (slice_range q.records s (e + 1)) non_nullable) c.offsets.ensures.value in
    let same = c.share.ensures ∙ c.bytes.ensures.value in
    sound-as_cut p s e (valid_of c.args.validity) c.kind.result c.slice_offsets-cut.result c.share.result cut same c.offsets.ensures.valid c.requires.ordered c.requires.within c.requires.fitting

pub returns : goal.returns
returns c =
    let p = c.args.array.now in let s = c.args.start in let e = c.args.end in
    let cut = c.slice_offsets-cut.ensures ∙ ap (λ (q : RecordParts). records_with q (slice_range q.records s (e + 1)) non_nullable) c.offsets.ensures.value in
    let same = c.share.ensures ∙ c.bytes.ensures.value in
    record {
      kind = ap (λ (q : VarBinParts). q.kind) c.of.ensures ∙ c.kind.ensures;
      offsets = ap (λ (q : VarBinParts). q.offsets) c.of.ensures ∙ cut;
      bytes = ap (λ (q : VarBinParts). q.bytes) c.of.ensures ∙ same;
      texts = ap (λ (q : VarBinParts). lists_at (offset_positions (integers_of q.offsets)) q.bytes) c.of.ensures
          ∙ ap₂ (λ (o : RecordParts) (b : List ℕ). lists_at (offset_positions (integers_of o)) b) cut same
          ∙ texts-cut p s e c.requires.ordered;
      valid = ap (λ (q : VarBinParts). q.valid) c.of.ensures;
    }
