-- The texts that are put out are those that are kept at the picks.
use Rattle.std.proofs.Common.{◌≡◌, [], ℕ, Bool, List, length, ap, ap₂, sym, subst, ◌∙◌, arith}
use Rattle.vx_take.specs.Picks.{at}
use Rattle.vx_offsets.specs.Offsets.{lists_at, offset_positions}
use Rattle.vx_mask.specs.Mask.{mask_bits}
use Rattle.vx_model.specs.Numbers.{integers_of}
use Rattle.vx_model.specs.Records.{RecordParts}
use Rattle.vx_model.specs.Text.{kept_texts}
use Rattle.vx_model.specs.Valid.{is_fitting, present_bits}
use Rattle.vx_model.specs.VarBin.{varbin_texts}
use Rattle.vx_model.proofs.ShownRows.{length-present_bits}
use Rattle.vx_model.proofs.Takes.{length-at}
use Rattle.vx_column.specs.Validity.{valid_of}
use Rattle.vx_offsets.specs.Cut.{type_of}
use Rattle.vx_text.specs.Building.{AreTexts}
use Rattle.vx_text.proofs.BuiltTexts.{texts_left, length-kept}
use Rattle.vx_text.proofs.CutOffsets.{end-within}
use Rattle.vx_text.proofs.picked_texts.take_varbin_picks.Goals as goal

pub texts_in-requires-clause-bound : goal.texts_in-requires-clause-bound
texts_in-requires-clause-bound c =
    omega (arith, end-within c.args.array.now 0 c.args.picks.now.bound c.offsets-offsets.ensures.valid c.requires.bound, ap (λ (q : RecordParts). length q.records) c.offsets-offsets.ensures.value)

pub texts_in-requires-clause-long : goal.texts_in-requires-clause-long
texts_in-requires-clause-long c =
    let v = valid_of c.args.validity in
    ap length c.in_ok-present.ensures
    ∙ length-present_bits v c.len.result (ap (is_fitting v) c.len.ensures ∙ c.requires.fitting)
    ∙ c.len.ensures

pub finish-requires-clause-fitting : goal.finish-requires-clause-fitting
finish-requires-clause-fitting c =
    let v = valid_of c.args.validity in let picks = c.args.picks.now.picks in
    let bits = mask_bits c.in_ok-present.present in
    let taken = at [] (lists_at (offset_positions (integers_of c.offsets-offsets.result.now)) c.as_slice.result.now) picks in
    let long : length bits ≡ length picks =
    ap length c.in_ok-present.ensures
    ∙ length-present_bits v c.len.result (ap (is_fitting v) c.len.ensures ∙ c.requires.fitting)
    ∙ c.len.ensures in
    let many = length-at [] (lists_at (offset_positions (integers_of c.offsets-offsets.result.now)) c.as_slice.result.now) picks in
    ap (λ (l : List (List ℕ)). is_fitting v (length l)) c.in_ok-texts.ensures.texts
    ∙ ap (is_fitting v) (length-kept bits taken (long ∙ sym many) ∙ many)
    ∙ c.requires.fitting

pub returns : goal.returns
returns c =
    let p = c.args.array.now in let v = valid_of c.args.validity in let picks = c.args.picks.now.picks in
    let built = c.in_ok-texts.texts in let made = c.finish.ensures in
    let kept = c.in_ok-present.ensures ∙ ap (present_bits v) c.len.ensures in
    let cut = ap₂ (λ (o : RecordParts) (b : List ℕ). lists_at (offset_positions (integers_of o)) b) c.offsets-offsets.ensures.value (c.as_slice.ensures ∙ c.bytes-bytes.ensures.value) in
    let same = ap₂ (λ (b : List Bool) (l : List (List ℕ)). kept_texts b (at [] l picks)) kept cut in
    let put = subst (λ (o : RecordParts). AreTexts (type_of o.kind) built.offsets built.bytes.items (kept_texts (present_bits v (length picks)) (at [] (varbin_texts p).texts picks))) c.offsets-offsets.ensures.value
    (subst (λ (l : List (List ℕ)). AreTexts (type_of c.offsets-offsets.result.now.kind) built.offsets built.bytes.items l) same c.in_ok-texts.ensures) in
    texts_left c.finish.result p c.kind.result built.offsets built.bytes.items _ v c.kind.ensures put made.kind made.offsets made.bytes made.texts made.valid
