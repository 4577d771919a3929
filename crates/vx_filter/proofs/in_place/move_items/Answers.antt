use Rattle.std.proofs.Common.{◌+◌, ◌-◌, drop, ap, ◌∙◌, arith}
use Rattle.std.proofs.lemmas.List.{length-drop}
use Rattle.vx_filter.proofs.Blocks.{drop_pasted}
use Rattle.vx_filter.proofs.Moves.{same_further}
use Rattle.vx_filter.proofs.in_place.move_items.Goals as goal

pub returns-clause-after : goal.returns-clause-after
returns-clause-after g c =
    let values = c.args.values.now in
    let n = c.args.from + c.args.count - c.args.from in
    let here = ap (drop (c.args.to + n)) c.copy_within.ensures.after ∙ drop_pasted values (drop c.args.from values) c.args.to n (omega arith) (omega (arith, length-drop c.args.from values)) in
    same_further values _ (c.args.to + n) (c.args.from + c.args.count) (omega arith) here
