use Rattle.std.proofs.Common.{replicate, true, sym, ap, ◌∙◌, subst, arith}
use Rattle.vx_mask.specs.Mask.{mask_bits}
use Rattle.vx_mask.specs.Positions.{IsSpan, span_of}
use Rattle.vx_mask.specs.declared.mask.Mask.{Mask}
use Rattle.vx_mask.proofs.Spans.{span_all, span_is}
use Rattle.vx_mask.proofs.mask.Mask.contiguous.Goals as goal

pub returns-else-len-eq0-clause-value : goal.returns-else-len-eq0-clause-value
returns-else-len-eq0-clause-value c =
    let len = c.in-AllTrue.len in
    span_is (replicate len true) 0 len (span_all len (omega (arith, c.if-len-eq0.false))) ∙ ap (λ (m : Mask). span_of (mask_bits m)) (sym c.in-AllTrue.is)

pub returns-else-len-eq0-clause-run : goal.returns-else-len-eq0-clause-run
returns-else-len-eq0-clause-run c =
    let len = c.in-AllTrue.len in
    subst (λ (m : Mask). IsSpan (mask_bits m) 0 len) (sym c.in-AllTrue.is) (span_all len (omega (arith, c.if-len-eq0.false)))
