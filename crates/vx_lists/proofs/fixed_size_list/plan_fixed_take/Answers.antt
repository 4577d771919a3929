-- The lists that are taken.
use Rattle.std.proofs.Common.{◌<◌, ◌*◌, ◌∙◌, ℕ, length, ap, subst, arith}
use Rattle.vx_column.specs.Validity.{valid_of}
use Rattle.vx_lists.specs.Fixed.{TakesFixed}
use Rattle.vx_lists.proofs.ListsOfOneSize.{fixed_filled, fixed_taken, fixed_within}
use Rattle.vx_lists.proofs.fixed_size_list.plan_fixed_take.Goals as goal

pub returns-clause-lists : goal.returns-clause-lists
returns-clause-lists c some =
    let picks = c.args.picks.now.picks in let p = c.args.array.now in let take = c.in_ok-take.take in
    let there : 0 < c.len-2.result = omega (arith, some, c.len-2.ensures.value) in
    let takes = subst (λ (s : ℕ). TakesFixed s p.len picks take.runs) c.list_size.ensures.value
    (subst (λ (n : ℕ). TakesFixed c.list_size.result n picks take.runs) c.len-2.ensures.value (c.in_ok-take.ensures.lists there)) in
    let many = c.in_ok-take.ensures.elements ∙ ap (λ s. length picks * s) c.list_size.ensures.value in
    fixed_taken p picks take.runs take.filler (valid_of c.args.validity) c.elements.ensures.valid c.requires.fitting takes many (c.in_ok-take.ensures.filler there)
    (fixed_within p c.list_size.result c.len-2.result take.runs c.elements.ensures.valid c.list_size.ensures.value c.len-2.ensures.value c.in_ok-take.ensures.inside)

pub returns-clause-fillers : goal.returns-clause-fillers
returns-clause-fillers c empty =
    let picks = c.args.picks.now.picks in let p = c.args.array.now in let take = c.in_ok-take.take in
    let many = c.in_ok-take.ensures.elements ∙ ap (λ s. length picks * s) c.list_size.ensures.value in
    fixed_filled p picks take.runs take.filler (valid_of c.args.validity) empty c.requires.fitting many (c.in_ok-take.ensures.none (c.len-2.ensures.value ∙ empty))
