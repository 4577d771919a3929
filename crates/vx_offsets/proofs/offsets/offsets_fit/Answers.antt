-- The number at hand decides, or those behind it do.
use Rattle.std.proofs.Common.{rules, ◌+◌, ◌<◌, length, drop, refl, sym, ap, ◌∙◌, arith}
use Rattle.std.specs.Prelude.{pos}
use Rattle.vx_lemmas.proofs.Bools.{and_step}
use Rattle.vx_offsets.specs.Offsets.{ascend_within, record_numbers}
use Rattle.vx_offsets.proofs.Ascending.{ascend_within-at, are_offsets-some, length-numbers, neither}
use Rattle.vx_offsets.proofs.offsets.offsets_fit.Goals as goal

pub returns-in-None : goal.returns-in-None
returns-in-None g c =
    let p = c.args.ptype in let xs = c.args.records.now in let n = c.args.len in let i = c.loop-i.i in let zs = record_numbers p xs in
    let read : i < length xs = search rules in
    let inside : i < length zs = omega (arith, read, length-numbers p xs) in
    neither _ _ c.in-None.ensures
    ∙ sym (ascend_within-at n (pos c.loop-i.low) zs i _ inside refl)
    ∙ sym c.loop-i.invariant
    ∙ sym (are_offsets-some n zs (omega (arith, inside)))

pub loop-i-preserved : goal.loop-i-preserved
loop-i-preserved g c =
    let p = c.args.ptype in let xs = c.args.records.now in let n = c.args.len in let i = c.loop-i.i in let zs = record_numbers p xs in
    let read : i < length xs = search rules in
    let inside : i < length zs = omega (arith, read, length-numbers p xs) in
    c.loop-i.invariant
    ∙ ascend_within-at n (pos c.loop-i.low) zs i _ inside refl
    ∙ sym (and_step _ _ c.in-Some.ensures.1)
    ∙ ap (λ z. ascend_within z (drop (i + 1) zs) n) (sym c.in-Some.ensures.0)
