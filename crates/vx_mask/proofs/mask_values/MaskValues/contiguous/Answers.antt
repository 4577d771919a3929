use Rattle.std.proofs.Common.{ap, sym, ◌∙◌, arith}
use Rattle.vx_mask.specs.MaskValues.{PartialMask}
use Rattle.vx_mask.specs.Positions.{span_of}
use Rattle.vx_mask.proofs.Spans.{first_run, one_span, span_is, span_none}
use Rattle.vx_mask.proofs.mask_values.MaskValues.contiguous.Goals as goal

pub returns-then-end-start : goal.returns-then-end-start
returns-then-end-start c =
    let m = c.self.inside in
    let s = c.next_with-start.ensures in
    let e = c.next_with-end.ensures in
    let h = c.self.invariant in
    let run = first_run m.bits.bits c.next_with-start.result c.next_with-end.result (omega (arith, h.some, h.counted)) e.from s.within e.within s.passed s.found e.passed e.found in
    span_is m.bits.bits c.next_with-start.result c.next_with-end.result (one_span m.bits.bits c.next_with-start.result c.next_with-end.result run (omega (arith, c.if-end-start.true, h.counted)))
    ∙ ap (λ (m : PartialMask). span_of m.bits.bits) c.self.view_is

pub returns-else-end-start : goal.returns-else-end-start
returns-else-end-start c =
    let m = c.self.inside in
    let s = c.next_with-start.ensures in
    let e = c.next_with-end.ensures in
    let h = c.self.invariant in
    let run = first_run m.bits.bits c.next_with-start.result c.next_with-end.result (omega (arith, h.some, h.counted)) e.from s.within e.within s.passed s.found e.passed e.found in
    span_none m.bits.bits c.next_with-start.result c.next_with-end.result run (λ same. c.if-end-start.false (same ∙ sym h.counted))
    ∙ ap (λ (m : PartialMask). span_of m.bits.bits) c.self.view_is
