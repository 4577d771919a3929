-- The runs of a mask cover just the set positions.
use Rattle.std.proofs.Common.{◌≡◌, List, ℕ, ◌<◌, ◌≤◌, length, get_or, slice_range, ap, subst, sym, ◌∙◌, arith}
use Rattle.std.specs.Prelude.{IfOk}
use Rattle.std.specs.List.{flat_map}
use Rattle.vx_mask.specs.Mask.{mask_bits}
use Rattle.vx_mask.specs.MaskValues.{AreSlicesOf, PartialMask}
use Rattle.vx_mask.specs.Positions.{set_of}
use Rattle.vx_filter.proofs.Picks.{runs_picked_set}
use Rattle.vx_offsets.specs.Offsets.{lists_at, offset_positions}
use Rattle.vx_model.specs.Numbers.{integers_of}
use Rattle.vx_model.specs.Records.{RecordParts}
use Rattle.vx_model.specs.VarBin.{varbin_texts}
use Rattle.vx_offsets.specs.Cut.{type_of}
use Rattle.vx_text.specs.Building.{AreTexts}
use Rattle.vx_text.proofs.CutOffsets.{end-within}
use Rattle.vx_text.proofs.FilteredTexts.{set_runs_within}
use Rattle.vx_text.proofs.filtered.texts_by_mask.Goals as goal

pub texts_in_runs-requires-clause-within : goal.texts_in_runs-requires-clause-within
texts_in_runs-requires-clause-within c =
    let a = c.args.array.now in let bits = c.args.mask.now.bits.bits in let runs = c.in-Some.runs.now in
    let cover : AreSlicesOf c.in-Values.values runs = c.in-Some.ensures.cover in
    let same : c.in-Values.values.bits.bits ≡ bits = sym (ap mask_bits c.in-Values.is) ∙ c.in_ok-sliced.ensures.bits ∙ ap (λ (m : PartialMask). m.bits.bits) c.share.ensures in
    λ k d h.
    omega (arith, set_runs_within bits runs cover.none_empty (cover.cover ∙ ap set_of same) k d h, end-within a 0 (length (varbin_texts a).texts) c.offsets-offsets.ensures.valid (omega arith), c.requires, ap (λ (q : RecordParts). length q.records) c.offsets-offsets.ensures.value)

pub returns : goal.returns
returns c =
    let a = c.args.array.now in let bits = c.args.mask.now.bits.bits in let runs = c.in-Some.runs.now in
    let texts = (varbin_texts a).texts in
    let cover : AreSlicesOf c.in-Values.values runs = c.in-Some.ensures.cover in
    let same : c.in-Values.values.bits.bits ≡ bits = sym (ap mask_bits c.in-Values.is) ∙ c.in_ok-sliced.ensures.bits ∙ ap (λ (m : PartialMask). m.bits.bits) c.share.ensures in
    let covers = cover.cover ∙ ap set_of same in
    let ordered = λ (k : ℕ) (d : ℕ × ℕ) (h : k < length runs). less (get_or runs k d).0 (get_or runs k d).1 (cover.none_empty k d h) in
    let within = set_runs_within bits runs cover.none_empty covers in
    let fit = λ (k : ℕ) (d : ℕ × ℕ) (h : k < length runs). up (get_or runs k d).1 (length bits) (length texts) (within k d h) c.requires in
    let picked = runs_picked_set bits texts runs c.requires covers ordered fit in
    subst (λ (l : List (List ℕ)). IfOk c.texts_in_runs.result (λ t. AreTexts (type_of a.offsets.kind) t.offsets t.bytes.items l)) picked
    (subst (λ (b : List ℕ). IfOk c.texts_in_runs.result (λ t. AreTexts (type_of a.offsets.kind) t.offsets t.bytes.items (flat_map (λ run. slice_range (lists_at (offset_positions (integers_of a.offsets)) b) run.0 run.1) runs))) (c.as_slice.ensures ∙ c.bytes-bytes.ensures.value)
    (subst (λ (o : RecordParts). IfOk c.texts_in_runs.result (λ t. AreTexts (type_of o.kind) t.offsets t.bytes.items (flat_map (λ run. slice_range (lists_at (offset_positions (integers_of o)) c.as_slice.result.now) run.0 run.1) runs))) c.offsets-offsets.ensures.value c.texts_in_runs.ensures))
  where
    less : (a b : ℕ) → a < b → a ≤ b
    less a b h = omega (arith, h)

    up : (a b n : ℕ) → a ≤ b → b ≡ n → a ≤ n
    up a b n h e = omega (arith, h, e)
