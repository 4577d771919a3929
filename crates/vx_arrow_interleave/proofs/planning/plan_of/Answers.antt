-- The walk goes on, and ends.
use Rattle.std.proofs.Common.{◌<◌, ℕ, [], arith, get_or, length, refl, rules, subst, sym}
use Rattle.std.proofs.lemmas.List.{get_or-map, length-map}
use Rattle.vx_arrow_image.specs.Image.{parts_of}
use Rattle.vx_arrow_interleave.specs.declared.sources.Group.{Group}
use Rattle.vx_arrow_interleave.specs.Planned.{IsVisited, groups_of, sources_in}
use Rattle.vx_arrow_interleave.specs.Spots.{spots}
use Rattle.vx_arrow_interleave.proofs.PlanWalks.{empty_stack, last_walk, next_walk, sources_first}
use Rattle.vx_arrow_interleave.proofs.planning.plan_of.Goals as goal

pub loop-i-preserved : goal.loop-i-preserved
loop-i-preserved c =
    let groups = c.args.groups.now in
    let i = c.loop-i.i in
    let none : Group = record { nodes = record { ref_ptr = (0, 0); now = [] } } in
    let low : i < length groups = c.loop-i-test.true in
    let count = sources_first groups none (omega arith) in
    let ps = parts_of (get_or groups i none).nodes.now in
    next_walk (sources_in groups) (groups_of groups) (spots c.args.spans.now) i ps c.loop-i.walk c.visit.new.self c.loop-i.invariant
    (subst (λ (n : ℕ). IsVisited n ps c.loop-i.walk c.visit.new.self) count c.in_default.ensures)
    (omega (arith, length-map groups (λ (g : Group). parts_of g.nodes.now)))
    (sym (get_or-map (λ (g : Group). parts_of g.nodes.now) groups i none [] low))

pub returns-clause-planned : goal.returns-clause-planned
returns-clause-planned c =
    let groups = c.args.groups.now in
    last_walk (sources_in groups) (groups_of groups) (spots c.args.spans.now) c.loop-i.i c.loop-i.walk (record { jobs = c.loop-i.walk.jobs; needs = c.loop-i.walk.needs }) c.loop-i.invariant
    (omega (arith, length-map groups (λ (g : Group). parts_of g.nodes.now)))
    (empty_stack c.loop-i.walk (search rules)) refl refl
