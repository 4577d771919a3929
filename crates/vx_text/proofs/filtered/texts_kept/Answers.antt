-- Where no row is null, the texts are those at the set positions; else a filter is a take at these.
use Rattle.std.proofs.Common.{◌≡◌, [], List, Bool, ℕ, true, length, refl, ap, subst, sym, ◌∙◌, arith}
use Rattle.std.specs.Prelude.{IfOk, replicate}
use Rattle.std.specs.List.{items_where_true}
use Rattle.vx_mask.specs.Mask.{mask_bits}
use Rattle.vx_take.specs.Picks.{at, BoundedPicks}
use Rattle.vx_take.proofs.TakenLists.{take_at_the_set}
use Rattle.vx_offsets.specs.Offsets.{lists_at, offset_positions}
use Rattle.vx_model.specs.Numbers.{integers_of}
use Rattle.vx_model.specs.Records.{RecordParts}
use Rattle.vx_model.specs.Text.{kept_texts}
use Rattle.vx_model.specs.VarBin.{varbin_texts}
use Rattle.vx_model.proofs.Texts.{offsets-varbin}
use Rattle.vx_offsets.specs.Cut.{type_of}
use Rattle.vx_text.specs.Building.{AreTexts}
use Rattle.vx_text.proofs.CutOffsets.{end-within}
use Rattle.vx_text.proofs.FilteredTexts.{kept_there, set_count}
use Rattle.vx_text.proofs.filtered.texts_kept.Goals as goal
use Rattle.vx_mask.proofs.RankedItems.{length-items_where_true}

pub returns-then-goes_by_runs : goal.returns-then-goes_by_runs
returns-then-goes_by_runs c =
    let a = c.args.array.now in let bits = c.args.mask.now.bits.bits in let there = mask_bits c.args.present.now in
    let texts = items_where_true bits (varbin_texts a).texts in
    let many : length texts ≡ length there = length-items_where_true bits (varbin_texts a).texts c.requires.long ∙ sym c.requires.fitting in
    let all : there ≡ replicate (length there) true = c.if-goes_by_runs.ensures refl in
    subst (λ (l : List (List ℕ)). IfOk c.texts_by_mask.result (λ t. AreTexts (type_of a.offsets.kind) t.offsets t.bytes.items l))
    (sym (ap (λ (b : List Bool). kept_texts b texts) all ∙ kept_there (length there) texts many))
    c.texts_by_mask.ensures

pub texts_in-requires-clause-offsets : goal.texts_in-requires-clause-offsets
texts_in-requires-clause-offsets c =
    rw (c.offsets-offsets.ensures.value, c.as_slice.ensures, c.bytes-bytes.ensures.value)
    (offsets-varbin c.args.array.now c.offsets-offsets.ensures.valid)

pub texts_in-requires-clause-bound : goal.texts_in-requires-clause-bound
texts_in-requires-clause-bound c =
    let a = c.args.array.now in
    let bound = ap (λ (p : BoundedPicks). p.bound) c.in_ok-picks.ensures in
    omega (arith, bound, end-within a 0 (length (varbin_texts a).texts) c.offsets-offsets.ensures.valid (omega arith), c.requires.long, ap (λ (q : RecordParts). length q.records) c.offsets-offsets.ensures.value)

pub texts_in-requires-clause-long : goal.texts_in-requires-clause-long
texts_in-requires-clause-long c =
    c.requires.fitting
    ∙ sym (set_count c.args.mask.now.bits.bits (varbin_texts c.args.array.now).texts c.requires.long)
    ∙ sym (ap (λ (p : BoundedPicks). length p.picks) c.in_ok-picks.ensures)

pub returns : goal.returns
returns c =
    let a = c.args.array.now in let bits = c.args.mask.now.bits.bits in let there = mask_bits c.args.present.now in
    let texts = (varbin_texts a).texts in
    let same : at [] texts c.in_ok-picks.picks.picks ≡ items_where_true bits texts =
    ap (λ (p : BoundedPicks). at [] texts p.picks) c.in_ok-picks.ensures ∙ sym (take_at_the_set [] bits texts c.requires.long) in
    subst (λ (l : List (List ℕ)). IfOk c.texts_in.result (λ t. AreTexts (type_of a.offsets.kind) t.offsets t.bytes.items (kept_texts there l))) same
    (subst (λ (b : List ℕ). IfOk c.texts_in.result (λ t. AreTexts (type_of a.offsets.kind) t.offsets t.bytes.items (kept_texts there (at [] (lists_at (offset_positions (integers_of a.offsets)) b) c.in_ok-picks.picks.picks)))) (c.as_slice.ensures ∙ c.bytes-bytes.ensures.value)
    (subst (λ (o : RecordParts). IfOk c.texts_in.result (λ t. AreTexts (type_of o.kind) t.offsets t.bytes.items (kept_texts there (at [] (lists_at (offset_positions (integers_of o)) c.as_slice.result.now) c.in_ok-picks.picks.picks)))) c.offsets-offsets.ensures.value c.texts_in.ensures))
