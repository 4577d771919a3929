-- The texts that are put out are those that are kept at the set positions.
use Rattle.std.proofs.Common.{◌≡◌, Bool, List, ℕ, length, ap, subst, sym, ◌∙◌}
use Rattle.std.specs.List.{items_where_true}
use Rattle.vx_mask.specs.Mask.{mask_bits}
use Rattle.vx_model.specs.Text.{kept_texts}
use Rattle.vx_model.specs.Valid.{is_fitting, present_bits}
use Rattle.vx_model.specs.VarBin.{varbin_texts}
use Rattle.vx_model.proofs.ShownRows.{length-present_bits}
use Rattle.vx_column.specs.Validity.{valid_of}
use Rattle.vx_offsets.specs.Cut.{type_of}
use Rattle.vx_text.specs.Building.{AreTexts}
use Rattle.vx_text.proofs.BuiltTexts.{texts_left, length-kept}
use Rattle.vx_text.proofs.filtered.filter_varbin.Goals as goal
use Rattle.vx_mask.proofs.RankedItems.{length-items_where_true}

pub finish-requires-clause-fitting : goal.finish-requires-clause-fitting
finish-requires-clause-fitting c =
    let v = valid_of c.args.validity in let bits = c.args.mask.now.bits.bits in
    let texts = items_where_true bits (varbin_texts c.args.array.now).texts in
    let many = length-items_where_true bits (varbin_texts c.args.array.now).texts c.requires.long in
    let there : length (mask_bits c.in_ok-present.present) ≡ c.true_count.result =
    ap length c.in_ok-present.ensures ∙ length-present_bits v c.true_count.result (ap (is_fitting v) c.true_count.ensures.count ∙ c.requires.fitting) in
    ap (λ (l : List (List ℕ)). is_fitting v (length l)) c.in_ok-texts.ensures.texts
    ∙ ap (is_fitting v) (length-kept (mask_bits c.in_ok-present.present) texts (there ∙ c.true_count.ensures.count ∙ sym many) ∙ many)
    ∙ c.requires.fitting

pub returns : goal.returns
returns c =
    let p = c.args.array.now in let v = valid_of c.args.validity in let bits = c.args.mask.now.bits.bits in
    let texts = items_where_true bits (varbin_texts p).texts in let built = c.in_ok-texts.texts in let made = c.finish.ensures in
    let shown = c.in_ok-present.ensures ∙ ap (present_bits v) c.true_count.ensures.count in
    let put = subst (λ (b : List Bool). AreTexts (type_of p.offsets.kind) built.offsets built.bytes.items (kept_texts b texts)) shown c.in_ok-texts.ensures in
    texts_left c.finish.result p c.kind.result built.offsets built.bytes.items _ v c.kind.ensures put made.kind made.offsets made.bytes made.texts made.valid
