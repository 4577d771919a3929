-- The picks that are shown where all rows are valid, or none.
use Rattle.std.proofs.Common.{◌≡◌, ◌∙◌, true, false, length, sym}
use Rattle.std.proofs.lemmas.List.{length-replicate}
use Rattle.std.proofs.lemmas.Result.{IfOk-weaker}
use Rattle.vx_lists.specs.declared.take.ListTake.{ListTake}
use Rattle.vx_lists.proofs.TakenLists.{ok_none_there, take_all_there}
use Rattle.vx_lists.proofs.take.taken_where.Goals as goal

pub returns-in-AllTrue : goal.returns-in-AllTrue
returns-in-AllTrue c =
    let picks = c.args.picks.now.picks in let n = c.in-AllTrue.field-0 in
    let long : n ≡ length picks = sym (length-replicate n true) ∙ (rw c.in-AllTrue.is at c.requires.long) in
    rw c.in-AllTrue.is
    (IfOk-weaker c.taken.result _ _ (λ take v. take_all_there c.args.offsets.now n picks take.offsets.items take.runs long v) c.taken.ensures)

pub returns-in-AllFalse : goal.returns-in-AllFalse
returns-in-AllFalse c =
    let picks = c.args.picks.now.picks in let n = c.in-AllFalse.len in
    let long : n ≡ length picks = sym (length-replicate n false) ∙ (rw c.in-AllFalse.is at c.requires.long) in
    rw c.in-AllFalse.is
    (ok_none_there c.all_empty.result (λ (t : ListTake). t.offsets.items) (λ (t : ListTake). t.runs) c.args.offsets.now n picks long c.all_empty.ensures.offsets c.all_empty.ensures.runs)
