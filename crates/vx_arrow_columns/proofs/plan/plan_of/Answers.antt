-- One node more, and the end of the walk.
use Rattle.std.proofs.Common.{◌<◌, ◌-◌, ◌+◌, get_or, drop, length, ap, ◌∙◌, refl, sym, subst, arith}
use Rattle.std.proofs.lemmas.List.{length-map, length-drop, get_or-map, drop-map, take_all}
use Rattle.vx_arrow_image.specs.declared.refusal.Lack.TheVariants.{Tree}
use Rattle.vx_arrow_image.specs.declared.refusal.Refusal.{Refusal}
use Rattle.vx_arrow_image.specs.Image.{part_of, parts_of}
use Rattle.vx_arrow_columns.specs.Answer.{IsPlanRefusal}
use Rattle.vx_arrow_columns.specs.Picks.{picking_of}
use Rattle.vx_arrow_columns.specs.Planned.{first_len}
use Rattle.vx_arrow_image.proofs.SoundNodes.{zero_node}
use Rattle.vx_arrow_columns.proofs.Meant.{no_column}
use Rattle.vx_arrow_columns.proofs.Plans.{first_is, first_was, plan_done}
use Rattle.vx_arrow_columns.proofs.SoundWalks.{first_fits, next_fits, no_memory, no_nodes, visit_refused}
use Rattle.vx_arrow_columns.proofs.ReadTrees.{rows_first}
use Rattle.vx_arrow_columns.proofs.Walks.{first_walk}
use Rattle.vx_arrow_columns.proofs.plan.plan_of.Goals as goal

pub loop-i-init : goal.loop-i-init
loop-i-init c =
    let nodes = c.args.nodes.now in
    let parts = parts_of nodes in
    let some : 0 < length nodes = omega arith in
    let few : 0 < length parts = omega (arith, length-map nodes part_of) in
    let first = get_or-map part_of nodes 0 zero_node (part_of zero_node) some in
    first_fits parts c.args.places.now c.args.valid.now (part_of zero_node) (get_or nodes 0 zero_node).len c.in-Ok.walk
    (first_walk parts c.args.places.now c.args.valid.now _ c.in-Ok.walk few c.in-Ok.ensures.start (c.if-not-are_within.ensures.within refl)) c.in-Ok.ensures.start few (omega (arith, ap (λ p. p.len) first))

pub loop-i-preserved : goal.loop-i-preserved
loop-i-preserved c =
    let nodes = c.args.nodes.now in
    let i = c.loop-i.i in
    let low : i < length nodes = c.loop-i-test.true in
    let count = length-map nodes part_of in
    next_fits (parts_of nodes) c.args.places.now c.args.valid.now i (get_or nodes i zero_node) (part_of zero_node) _ c.loop-i.walk c.visit.new.self c.loop-i.invariant c.in_default.ensures.visited
    (omega arith) (get_or-map part_of nodes i zero_node (part_of zero_node) low) (ap parts_of (take_all (length nodes - (i + 1)) (drop (i + 1) nodes) (omega (arith, length-drop (i + 1) nodes))) ∙ sym (drop-map part_of (i + 1) nodes))

pub returns-clause-planned : goal.returns-clause-planned
returns-clause-planned c = plan_done (parts_of c.args.nodes.now) c.args.places.now c.args.valid.now c.loop-i.i c.loop-i.walk c.loop-i.invariant.is (omega (arith, length-map c.args.nodes.now part_of))

pub returns-clause-within : goal.returns-clause-within
returns-clause-within c = first_is c.args.nodes.now _ _ (c.if-not-are_within.ensures.within refl) (omega arith)

pub returns-then-not-are_within-clause-refused : goal.returns-then-not-are_within-clause-refused
returns-then-not-are_within-clause-refused c w = c.if-not-are_within.ensures.beyond refl (first_was c.args.nodes.now _ _ w (omega arith))

pub returns-then-nodes-eq0-clause-refused : goal.returns-then-nodes-eq0-clause-refused
returns-then-nodes-eq0-clause-refused c = no_nodes (parts_of c.args.nodes.now) (picking_of c.args.places.now c.args.valid.now 0) (first_len c.args.nodes.now) Tree c.at.result (omega (arith, length-map c.args.nodes.now part_of)) c.at.ensures

pub returns-in-Err-clause-refused : goal.returns-in-Err-clause-refused
returns-in-Err-clause-refused c = no_memory (parts_of c.args.nodes.now) (picking_of c.args.places.now c.args.valid.now 0) (first_len c.args.nodes.now) 0 c.in-Err.fault c.at-in-Err.result c.in-Err.ensures.fault c.at-in-Err.ensures

pub returns-in-Err-visit-clause-refused : goal.returns-in-Err-visit-clause-refused
returns-in-Err-visit-clause-refused c =
    let nodes = c.args.nodes.now in
    let i = c.loop-i.i in
    let low : i < length nodes = c.loop-i-test.true in
    let n = first_len nodes in
    let q = picking_of c.args.places.now c.args.valid.now 0 in
    subst (λ (r : Refusal). IsPlanRefusal (parts_of nodes) q n r) (sym c.at-in-Err-visit.ensures)
    (visit_refused (parts_of nodes) c.args.places.now c.args.valid.now i n (get_or nodes i zero_node) (part_of zero_node) _ c.loop-i.walk c.in-Err-visit.fault c.loop-i.invariant c.in-Err-visit.ensures.fault
    (omega (arith, length-map nodes part_of)) (get_or-map part_of nodes i zero_node (part_of zero_node) low) (ap parts_of (take_all (length nodes - (i + 1)) (drop (i + 1) nodes) (omega (arith, length-drop (i + 1) nodes))) ∙ sym (drop-map part_of (i + 1) nodes)))

pub returns-in-Err-visit-clause-meant : goal.returns-in-Err-visit-clause-meant
returns-in-Err-visit-clause-meant c =
    let nodes = c.args.nodes.now in
    no_column (parts_of nodes) (picking_of c.args.places.now c.args.valid.now 0) (first_len nodes) c.at-in-Err-visit.result (rows_first nodes)
    (first_is nodes _ _ (c.if-not-are_within.ensures.within refl) (omega arith)) (returns-in-Err-visit-clause-refused c)
