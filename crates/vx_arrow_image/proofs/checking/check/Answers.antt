-- One node more, or none has a place.
use Rattle.std.proofs.Common.{◌-◌, ◌<◌, length, refl, sym, ◌∙◌, ap, arith}
use Rattle.std.proofs.lemmas.List.{length-map, get_or-map}
use Rattle.vx_arrow_image.specs.Image.{part_of, parts_of, is_sound}
use Rattle.vx_arrow_image.proofs.SoundNodes.{zero_node}
use Rattle.vx_arrow_image.proofs.Stacks.{same_part, stack_next, stack_none, stack_other, stack_some}
use Rattle.vx_arrow_image.proofs.checking.check.Goals as goal
use Rattle.std.proofs.lemmas.Bool.{both_ways}

pub returns-then-node-nodes-clause-unsound : goal.returns-then-node-nodes-clause-unsound
returns-then-node-nodes-clause-unsound c =
    let nodes = c.args.nodes.now in
    let i = c.loop-i.i - 1 in
    let s = c.loop-i.invariant in
    let size = s.size in
    let count = length-map nodes part_of in
    let below : i < length nodes = omega (arith, c.loop-i.auto.i) in
    stack_none (parts_of nodes) c.loop-i.lens.items c.loop-i.i i c.loop-i.top _ (part_of zero_node) s (omega arith) (omega arith) (get_or-map part_of nodes i zero_node (part_of zero_node) below)
    (λ enough sound. omega (arith, c.if-node-nodes.true))

pub returns-in-Some-clause-unsound : goal.returns-in-Some-clause-unsound
returns-in-Some-clause-unsound c =
    let nodes = c.args.nodes.now in
    let i = c.loop-i.i - 1 in
    let s = c.loop-i.invariant in
    let count = length-map nodes part_of in
    let below : i < length nodes = omega (arith, c.loop-i.auto.i) in
    stack_none (parts_of nodes) c.loop-i.lens.items c.loop-i.i i c.loop-i.top _ (part_of zero_node) s (omega arith) (omega arith) (get_or-map part_of nodes i zero_node (part_of zero_node) below)
    (λ enough sound. both_ways _ c.in-Some.ensures (ap (is_sound _) (same_part _ _ c.loop-i.top c.deref.result.now c.loop-i.lens.items (omega arith) c.deref.ensures.value) ∙ sound))

pub loop-i-preserved : goal.loop-i-preserved
loop-i-preserved c =
    let nodes = c.args.nodes.now in
    let i = c.loop-i.i - 1 in
    let s = c.loop-i.invariant in
    let size = s.size in
    let count = length-map nodes part_of in
    let below : i < length nodes = omega (arith, c.loop-i.auto.i) in
    stack_next (parts_of nodes) c.loop-i.lens.items _ c.loop-i.i i c.loop-i.top _ _ (part_of zero_node) s (omega arith) (omega arith) (get_or-map part_of nodes i zero_node (part_of zero_node) below)
    (omega (arith, c.if-node-nodes.false))
    (sym (ap (is_sound _) (same_part _ _ c.loop-i.top c.deref.result.now c.loop-i.lens.items (omega arith) c.deref.ensures.value)) ∙ c.in_default-lack_of.ensures) refl refl

pub returns-then-top-nodes-clause-unsound : goal.returns-then-top-nodes-clause-unsound
returns-then-top-nodes-clause-unsound c =
    let size = c.loop-i.invariant.size in
    stack_other (parts_of c.args.nodes.now) c.loop-i.lens.items c.loop-i.i c.loop-i.top (length c.args.nodes.now) c.loop-i.invariant (omega arith) (omega (arith, length-map c.args.nodes.now part_of)) (λ e. c.if-top-nodes.true e)

pub returns-clause-sound : goal.returns-clause-sound
returns-clause-sound c =
    let size = c.loop-i.invariant.size in
    stack_some (parts_of c.args.nodes.now) c.loop-i.lens.items c.loop-i.i c.loop-i.top (length c.args.nodes.now) c.loop-i.invariant (omega arith) (omega (arith, length-map c.args.nodes.now part_of)) c.if-top-nodes.false
