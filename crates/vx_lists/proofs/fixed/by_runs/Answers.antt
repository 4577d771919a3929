-- The runs of the elements are those of the selection.
use Rattle.std.proofs.Common.{◌*◌, ◌∙◌, ap, sym}
use Rattle.vx_mask.specs.Mask.{mask_bits}
use Rattle.vx_mask.specs.MaskValues.{PartialMask}
use Rattle.vx_mask.specs.Positions.{set_of}
use Rattle.vx_lists.proofs.ListsOfOneSize.{repeated_told, runs_inside, scaled_faultless}
use Rattle.vx_lists.proofs.fixed.by_runs.Goals as goal

pub scaled-requires-clause-inside : goal.scaled-requires-clause-inside
scaled-requires-clause-inside c =
    let cover = c.runs_of.ensures.cover ∙ ap set_of (c.in_ok-mask.ensures.bits ∙ ap (λ (m : PartialMask). m.bits.bits) c.share.ensures) in
    runs_inside c.len.result c.args.selection.now.bits.bits c.runs_of.result.now c.len.ensures c.runs_of.ensures.none_empty cover

pub mask_of_runs-requires : goal.mask_of_runs-requires
mask_of_runs-requires c =
    let cover = c.runs_of.ensures.cover ∙ ap set_of (c.in_ok-mask.ensures.bits ∙ ap (λ (m : PartialMask). m.bits.bits) c.share.ensures) in
    let whole = c.requires.len ∙ ap (λ n. n * c.args.size) (sym c.len.ensures) in
    scaled_faultless c.args.size c.len.result c.args.len c.args.selection.now.bits.bits c.runs_of.result.now _ c.requires.some c.len.ensures whole c.runs_of.ensures.none_empty cover c.in_ok-runs.ensures

pub returns-clause-bits : goal.returns-clause-bits
returns-clause-bits c =
    let cover = c.runs_of.ensures.cover ∙ ap set_of (c.in_ok-mask.ensures.bits ∙ ap (λ (m : PartialMask). m.bits.bits) c.share.ensures) in
    repeated_told c.mask_of_runs.result mask_bits c.args.size c.args.len c.args.selection.now.bits.bits c.runs_of.result.now _ c.requires.len c.runs_of.ensures.none_empty cover c.in_ok-runs.ensures c.mask_of_runs.ensures.len c.mask_of_runs.ensures.set
