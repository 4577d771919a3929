-- The steps that were brought together leave the part that was asked for.
use Rattle.std.proofs.Common.{◌≡◌, ◌∷◌, List, length, map, ap, ◌∙◌, arith}
use Rattle.vx_steps.specs.Step.{slice_step, step_value}
use Rattle.vx_steps.specs.declared.step.Step.{Step}
use Rattle.vx_paging.specs.Needed.{filters_back, left_of}
use Rattle.vx_paging.proofs.Needing.{counted_left, made-there, needed_part}
use Rattle.vx_paging.proofs.needed.page_picks.Goals as goal
use Rattle.vx_lemmas.proofs.Results.{if_ok}

pub needed_by-requires-clause-within : goal.needed_by-requires-clause-within
needed_by-requires-clause-within c =
    let n = c.args.len in let steps = map step_value c.args.steps.now in let count = c.in_ok-count.count in
    let same : count ≡ length (left_of n steps) = (counted_left n steps count c.in_ok-count.ensures).1 in
    omega (arith, same, c.min-2.ensures)

pub returns-clause-picks : goal.returns-clause-picks
returns-clause-picks c =
    let needed = c.in_ok-needed.needed in let made = map step_value c.deref.result.now in
    let is : made ≡ slice_step needed.start needed.end ∷ filters_back needed.masks.items =
    ap (λ (l : List Step). map step_value l) c.deref.ensures.value ∙ c.in_ok-into_steps.ensures in
    if_ok c.compose.result c.compose.ensures.picks (λ p walked.
    needed_part c.args.len (map step_value c.args.steps.now) made c.args.start c.args.end c.min.result c.min-2.result c.in_ok-count.count needed.start needed.end needed.masks.items p.picks
    c.requires c.in_ok-count.ensures c.min.ensures c.min-2.ensures is c.in_ok-needed.ensures walked)

pub returns-clause-there : goal.returns-clause-there
returns-clause-there c =
    let needed = c.in_ok-needed.needed in let made = map step_value c.deref.result.now in
    let is : made ≡ slice_step needed.start needed.end ∷ filters_back needed.masks.items =
    ap (λ (l : List Step). map step_value l) c.deref.ensures.value ∙ c.in_ok-into_steps.ensures in
    if_ok c.compose.result c.compose.ensures.there (λ p there _. there (made-there made needed.start needed.end needed.masks.items is))
