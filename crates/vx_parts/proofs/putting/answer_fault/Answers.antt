-- The first answer that is at fault, and none before.
use Rattle.std.proofs.Common.{get_or, sym, ap, ◌∙◌, arith}
use Rattle.std.proofs.lemmas.List.{get_or-map, length-map}
use Rattle.vx_types.specs.DType.{type_of}
use Rattle.vx_parts.specs.Plan.{lens_in}
use Rattle.vx_parts.specs.Putting.{part_fault}
use Rattle.vx_parts.specs.declared.plan.PartPlan.{PartPlan}
use Rattle.vx_parts.proofs.PutFaults.{fault_here, none_yet}
use Rattle.vx_parts.proofs.putting.answer_fault.Goals as goal

pub returns-in-Some : goal.returns-in-Some
returns-in-Some c =
    let k = c.loop-k.k in let parts = c.args.parts.now in let t = type_of c.args.dtype.now in let column = c.get.result.now in
    let many = length-map parts (λ (p : PartPlan). p.len) in
    let n = (get_or parts k c.index-parts-k.result).len in
    let told = ap (part_fault k t n) (sym c.deref.ensures) ∙ sym c.part_fault.ensures ∙ c.in-Some.is in
    fault_here t (lens_in parts) c.args.answers.now k n column _ (omega (arith, many, c.loop-k-test.true)) (omega (arith, c.loop-k-test.true, c.requires))
    (get_or-map (λ (p : PartPlan). p.len) parts k c.index-parts-k.result 0 c.loop-k-test.true) c.get.ensures c.loop-k.invariant c.in-Some.fault told

pub loop-k-preserved : goal.loop-k-preserved
loop-k-preserved c =
    let k = c.loop-k.k in let parts = c.args.parts.now in let t = type_of c.args.dtype.now in let column = c.get.result.now in
    let many = length-map parts (λ (p : PartPlan). p.len) in
    let n = (get_or parts k c.index-parts-k.result).len in
    let none = ap (part_fault k t n) (sym c.deref.ensures) ∙ sym c.part_fault.ensures ∙ c.in_default.is in
    none_yet t (lens_in parts) c.args.answers.now k n column _ (omega (arith, many, c.loop-k-test.true)) (omega (arith, c.loop-k-test.true, c.requires))
    (get_or-map (λ (p : PartPlan). p.len) parts k c.index-parts-k.result 0 c.loop-k-test.true) c.get.ensures c.loop-k.invariant none
