-- The views that are taken.
use Rattle.std.proofs.Common.{◌∙◌, ap, replicate}
use Rattle.vx_take.specs.Picks.{at}
use Rattle.vx_model.specs.Records.{RecordParts, records_with}
use Rattle.vx_model.specs.Valid.{non_nullable}
use Rattle.vx_column.specs.Validity.{valid_of}
use Rattle.vx_lists.proofs.ViewRows.{below_rows, same_views, views_taken}
use Rattle.vx_lists.proofs.listview.plan_view_take.Goals as goal

pub returns-clause-lists : goal.returns-clause-lists
returns-clause-lists c =
    let p = c.args.array.now in let v = valid_of c.args.validity in let picks = c.args.picks.now.picks in
    let taken : RecordParts → RecordParts = λ n. records_with n (at (replicate n.width 0) n.records picks) non_nullable in
    let below = below_rows p picks c.args.picks.now.bound c.bound.result c.offsets.ensures.valid c.bound.ensures.value c.requires.bound c.bound.ensures.below in
    same_views p v _ c.in_ok-offsets.offsets c.in_ok-sizes.sizes _ _ (c.in_ok-offsets.ensures ∙ ap taken c.offsets.ensures.value) (c.in_ok-sizes.ensures ∙ ap taken c.sizes.ensures.value)
    (views_taken p picks v c.offsets.ensures.valid below c.requires.fitting)
