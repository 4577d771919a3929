-- What the runs and the sums tell.
use Rattle.std.proofs.Common.{◌≤◌, arith}
use Rattle.std.proofs.lemmas.Result.{IfOk-weaker}
use Rattle.vx_mask.specs.Mask.{mask_bits}
use Rattle.vx_lists.specs.Lists.{row_count}
use Rattle.vx_lists.proofs.TakenLists.{elements_taken, lists_taken, rows_shown}
use Rattle.vx_lists.proofs.take.take_lists.Goals as goal

pub returns-clause-lists : goal.returns-clause-lists
returns-clause-lists c =
    let bound : c.bound.result ≤ row_count c.args.offsets.now = omega (arith, c.bound.ensures.value, c.requires.bound) in
    let below = rows_shown (mask_bits c.args.present.now) c.args.picks.now.picks c.bound.result (row_count c.args.offsets.now) bound c.bound.ensures.below in
    IfOk-weaker c.taken_where.result _ _ (λ take v. lists_taken c.args.offsets.now _ take.offsets.items take.runs c.requires.offsets below v) c.taken_where.ensures

pub returns-clause-elements : goal.returns-clause-elements
returns-clause-elements c =
    IfOk-weaker c.taken_where.result _ _ (λ take v. elements_taken c.args.offsets.now _ take.offsets.items take.runs v) c.taken_where.ensures
