use Rattle.std.proofs.Common.{◌+◌, length, take, drop, ap, ◌∙◌, arith}
use Rattle.vx_filter.proofs.Blocks.{block_put}
use Rattle.vx_filter.proofs.WordItems.{items_behind}
use Rattle.vx_filter.proofs.in_place.move_down.Goals as goal

pub returns-in-Some-clause-front : goal.returns-in-Some-clause-front
returns-in-Some-clause-front g c =
    let values = c.args.values.now in
    let behind = items_behind values c.args.from in
    let block = c.copy_from_slice.ensures.after ∙ c.in-Some.ensures.cases.same ∙ ap (take 16) behind in
    (block_put values _ (drop c.args.from values) c.args.to c.args.count (c.args.from + c.args.count) block (omega (arith, c.in-Some.ensures.cases.enough, ap length behind)) c.if-count-le16.true (omega arith) (omega arith)).front

pub returns-in-Some-clause-after : goal.returns-in-Some-clause-after
returns-in-Some-clause-after g c =
    let values = c.args.values.now in
    let behind = items_behind values c.args.from in
    let block = c.copy_from_slice.ensures.after ∙ c.in-Some.ensures.cases.same ∙ ap (take 16) behind in
    (block_put values _ (drop c.args.from values) c.args.to c.args.count (c.args.from + c.args.count) block (omega (arith, c.in-Some.ensures.cases.enough, ap length behind)) c.if-count-le16.true (omega arith) (omega arith)).after
