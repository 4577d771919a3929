-- The column of the records names the picks.
use Rattle.std.proofs.Common.{◌∙◌, ◌<◌, ◌^◌, ap, subst, arith}
use Rattle.vx_column.specs.Validity.{valid_of}
use Rattle.vx_model.specs.Valid.{nullability_by}
use Rattle.vx_take.specs.Picks.{AreBelow}
use Rattle.vx_pieces.specs.Indices.{index_fault, index_picks}
use Rattle.vx_select.proofs.PickIndices.{picks_named, no_index_fault}
use Rattle.vx_select.proofs.picked.pick_indices.Goals as goal
use Rattle.vx_lemmas.proofs.Results.{if_ok}

pub returns-clause-picks : goal.returns-clause-picks
returns-clause-picks c =
    let p = c.args.picks.now in let v = valid_of c.in_ok-validity.validity in let column = c.index_column in
    let small : p.bound < 2 ^ 64 = omega (arith, c.bound.ensures.value) in
    let below = subst (AreBelow p.picks) c.bound.ensures.value c.bound.ensures.below in
    if_ok c.indices_of.result c.indices_of.ensures (λ i is. ap index_picks is
    ∙ picks_named column.result v (nullability_by v) p.bound small c.in_ok-records.records p.picks below column.ensures.rows column.ensures.dtype c.in_ok-records.ensures c.in_ok-validity.ensures.present)

pub returns-clause-fault : goal.returns-clause-fault
returns-clause-fault c =
    let p = c.args.picks.now in let v = valid_of c.in_ok-validity.validity in let column = c.index_column in
    let small : p.bound < 2 ^ 64 = omega (arith, c.bound.ensures.value) in
    let below = subst (AreBelow p.picks) c.bound.ensures.value c.bound.ensures.below in
    if_ok c.indices_of.result c.indices_of.ensures (λ i is. ap (λ x. index_fault x p.bound) is
    ∙ no_index_fault column.result v (nullability_by v) p.bound small c.in_ok-records.records p.picks below column.ensures.rows column.ensures.dtype c.in_ok-records.ensures c.in_ok-validity.ensures.present)
