-- A part of equal bits is fewer of them.
use Rattle.std.proofs.Common.{◌≡◌, min, true, false, length, sym, ap, ◌∙◌, arith}
use Rattle.std.specs.Prelude.{slice_range, replicate}
use Rattle.std.proofs.lemmas.List.{length-replicate}
use Rattle.vx_mask.specs.Mask.{mask_bits}
use Rattle.vx_parts.proofs.Clipped.{clipped-alike}
use Rattle.vx_parts.proofs.cut.mask_part.Goals as goal

pub returns-in-AllTrue : goal.returns-in-AllTrue
returns-in-AllTrue c =
    let n = c.in-AllTrue.field-0 in
    let same : mask_bits c.args.mask.now ≡ replicate n true = ap mask_bits c.in-AllTrue.is in
    let count : c.len.result ≡ n = c.len.ensures ∙ ap length same ∙ length-replicate n true in
    let end : c.min-end.result ≡ min c.args.high n = omega (arith, c.min-end.ensures, count) in
    clipped-alike n true c.args.low c.args.high c.min-start.result c.min-end.result end c.min-start.ensures
    ∙ ap (λ bits. slice_range bits c.args.low c.args.high) (sym same)

pub returns-in-AllFalse : goal.returns-in-AllFalse
returns-in-AllFalse c =
    let n = c.in-AllFalse.field-0 in let same : mask_bits c.args.mask.now ≡ replicate n false = ap mask_bits c.in-AllFalse.is in
    let count : c.len.result ≡ n = c.len.ensures ∙ ap length same ∙ length-replicate n false in
    let end : c.min-end.result ≡ min c.args.high n = omega (arith, c.min-end.ensures, count) in
    clipped-alike n false c.args.low c.args.high c.min-start.result c.min-end.result end c.min-start.ensures
    ∙ ap (λ bits. slice_range bits c.args.low c.args.high) (sym same)
