-- A slice of equal bits is fewer of them.
use Rattle.std.proofs.Common.{◌≡◌, ◌≤◌, true, false, length, sym, ap, ◌∙◌, arith}
use Rattle.std.specs.Prelude.{slice_range, replicate}
use Rattle.std.proofs.lemmas.List.{length-replicate}
use Rattle.vx_mask.specs.Mask.{mask_bits}
use Rattle.vx_mask.proofs.RangeCounts.{slice_range-replicate}
use Rattle.vx_mask.proofs.ranges.slice_mask.Goals as goal

pub returns-in-AllTrue : goal.returns-in-AllTrue
returns-in-AllTrue c =
    let n = c.in-AllTrue.field-0 in let s = c.args.start in let e = c.args.end in
    let same : mask_bits c.args.mask.now ≡ replicate n true = ap mask_bits c.in-AllTrue.is in
    let inside : e ≤ n = omega (arith, c.requires.within, ap length same, length-replicate n true) in
    sym (slice_range-replicate n true s e c.requires.ordered inside) ∙ ap (λ bits. slice_range bits s e) (sym same)

pub returns-in-AllFalse : goal.returns-in-AllFalse
returns-in-AllFalse c =
    let n = c.in-AllFalse.field-0 in let s = c.args.start in let e = c.args.end in
    let same : mask_bits c.args.mask.now ≡ replicate n false = ap mask_bits c.in-AllFalse.is in
    let inside : e ≤ n = omega (arith, c.requires.within, ap length same, length-replicate n false) in
    sym (slice_range-replicate n false s e c.requires.ordered inside) ∙ ap (λ bits. slice_range bits s e) (sym same)
