-- The rows of the nodes at one place, planned.
use Rattle.std.proofs.Common.{◌≡◌, ◌<◌, ◌∷◌, ◌++◌, ◌∙◌, [], ap, arith, length, rules, sym}
use Rattle.std.specs.Prelude.{replicate}
use Rattle.std.specs.Prelude.{reverse}
use Rattle.std.proofs.lemmas.List.{length-map}
use Rattle.vx_arrow_image.specs.Image.{part_of, parts_of}
use Rattle.vx_arrow_columns.proofs.Measures.{ok_then}
use Rattle.vx_arrow_interleave.specs.declared.planning.Below.TheVariants.{Same, Split}
use Rattle.vx_arrow_interleave.specs.declared.planning.Walk.{Walk}
use Rattle.vx_arrow_interleave.specs.Sources.{part_at}
use Rattle.vx_arrow_interleave.specs.Planned.{IsVisited, lists_in}
use Rattle.vx_arrow_interleave.proofs.PlanWalks.{same_turned, visited}
use Rattle.vx_arrow_interleave.proofs.SpotLists.{no_node, part_at_node}
use Rattle.vx_arrow_interleave.proofs.planning.Walk.visit.Goals as goal

pub returns-in-Same : goal.returns-in-Same
returns-in-Same c =
    let old = c.args.self.now in
    let nodes = c.args.sources.now in
    let rest = c.pop.new.self.items in
    let p = c.in_ok-job.field-0 in
    let is = c.in_ok-job.ensures in
    let popped : old.stack.items ≡ rest ++ c.in-Some.spans ∷ [] = search rules in
    let jobs : c.push.new.self.items ≡ old.jobs.items ++ c.in_ok-job.job ∷ [] = search rules in
    let needs : c.push-2.new.self.items ≡ old.needs.items ++ c.in_ok-job.need ∷ [] = search rules in
    let many : length (parts_of nodes) ≡ c.args.count = omega (arith, length-map nodes part_of, c.if-sources-count.false) in
    let some = is.done.readable.alike.some in
    let low : 0 < length nodes = omega (arith, some, length-map nodes part_of) in
    let first = part_at_node nodes 0 no_node low in
    let spans = c.in-Same.spans in
    let below : Same spans ≡ p.below = sym c.in-Same.is in
    let new : Walk = record { jobs = c.push.new.self; needs = c.push-2.new.self; stack = c.push_below.new.stack } in
    ok_then (c.push_below.new.stack.items ≡ rest ++ replicate _ spans) (IsVisited c.args.count (parts_of nodes) old new) _ (λ stack.
    visited c.args.count (parts_of nodes) old new c.in-Some.spans rest p many popped is
    (stack ∙ ap (λ l. rest ++ l) (same_turned _ _ spans (sym (ap (λ q. q.children) first)) ∙ ap (λ b. reverse (lists_in (part_at (parts_of nodes) 0).children b)) below))
    (jobs ∙ ap (λ j. old.jobs.items ++ j ∷ []) (sym c.in_ok-job.job-is)) (needs ∙ ap (λ n. old.needs.items ++ n ∷ []) (sym c.in_ok-job.need-is))) c.push_below.ensures

pub returns-in-Split : goal.returns-in-Split
returns-in-Split c =
    let old = c.args.self.now in
    let nodes = c.args.sources.now in
    let rest = c.pop.new.self.items in
    let p = c.in_ok-job.field-0 in
    let is = c.in_ok-job.ensures in
    let popped : old.stack.items ≡ rest ++ c.in-Some.spans ∷ [] = search rules in
    let jobs : c.push.new.self.items ≡ old.jobs.items ++ c.in_ok-job.job ∷ [] = search rules in
    let needs : c.push-2.new.self.items ≡ old.needs.items ++ c.in_ok-job.need ∷ [] = search rules in
    let many : length (parts_of nodes) ≡ c.args.count = omega (arith, length-map nodes part_of, c.if-sources-count.false) in
    let lists = c.in-Split.lists in
    let below : Split lists ≡ p.below = sym c.in-Split.is in
    let new : Walk = record { jobs = c.push.new.self; needs = c.push-2.new.self; stack = c.push_split.new.stack } in
    ok_then (c.push_split.new.stack.items ≡ rest ++ reverse lists.items) (IsVisited c.args.count (parts_of nodes) old new) _ (λ stack.
    visited c.args.count (parts_of nodes) old new c.in-Some.spans rest p many popped is
    (stack ∙ ap (λ b. rest ++ reverse (lists_in (part_at (parts_of nodes) 0).children b)) below)
    (jobs ∙ ap (λ j. old.jobs.items ++ j ∷ []) (sym c.in_ok-job.job-is)) (needs ∙ ap (λ n. old.needs.items ++ n ∷ []) (sym c.in_ok-job.need-is))) c.push_split.ensures
