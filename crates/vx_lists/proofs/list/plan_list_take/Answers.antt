-- The plan makes the lists that are taken.
use Rattle.std.proofs.Common.{◌∙◌, ap, map}
use Rattle.std.specs.Prelude.{pos}
use Rattle.vx_model.specs.List.{list_spans}
use Rattle.vx_model.specs.Lists.{lists_of}
use Rattle.vx_column.specs.Validity.{valid_of}
use Rattle.vx_lists.proofs.MadeLists.{fits_kept, planned_lists}
use Rattle.vx_lists.proofs.list.plan_list_take.Goals as goal

pub returns-clause-lists : goal.returns-clause-lists
returns-clause-lists c =
    let p = list_spans c.args.array.now in
    let v = valid_of c.args.validity in
    planned_lists c.in_ok-offsets.offsets v c.in_ok-take.take.offsets.items _ _ c.in_ok-offsets.ensures.integers
    (c.in_ok-offsets.ensures.numbers ∙ ap (map pos) c.as_slice.ensures.value) c.in_ok-take.ensures.left (fits_kept v (lists_of p) c.args.picks.now.picks c.requires.fitting)
