use Rattle.std.proofs.Common.{◌+◌, ◌-◌, length, take, drop, ap, ◌∙◌, arith}
use Rattle.std.proofs.lemmas.List.{length-drop, length-take-le}
use Rattle.std.proofs.lemmas.Slice.{drop-put_mid}
use Rattle.vx_filter.proofs.Blocks.{block_put}
use Rattle.vx_filter.proofs.WordItems.{items_behind}
use Rattle.vx_filter.proofs.compact.copy_run.Goals as goal

pub returns-in-Some-clause-front : goal.returns-in-Some-clause-front
returns-in-Some-clause-front g c =
    let src = c.args.src.now in
    let behind = items_behind src c.args.from in
    let block = c.copy_from_slice.ensures.after ∙ c.in-Some.ensures.cases.same ∙ ap (take 16) behind in
    (block_put c.args.dst.now _ (drop c.args.from src) c.args.to c.args.count c.args.end block (omega (arith, c.in-Some.ensures.cases.enough, ap length behind)) c.if-count-le16.true (omega arith) (omega arith)).front

pub returns-in-Some-clause-rest : goal.returns-in-Some-clause-rest
returns-in-Some-clause-rest g c =
    let src = c.args.src.now in
    let behind = items_behind src c.args.from in
    let block = c.copy_from_slice.ensures.after ∙ c.in-Some.ensures.cases.same ∙ ap (take 16) behind in
    (block_put c.args.dst.now _ (drop c.args.from src) c.args.to c.args.count c.args.end block (omega (arith, c.in-Some.ensures.cases.enough, ap length behind)) c.if-count-le16.true (omega arith) (omega arith)).after

pub returns-clause-rest : goal.returns-clause-rest
returns-clause-rest g c =
    let long = ap length c.copy_from_slice-2.ensures.after in
    let part = length-take-le (c.args.from + c.args.count - c.args.from) (drop c.args.from c.args.src.now) (omega (arith, length-drop c.args.from c.args.src.now, c.requires.from)) in
    drop-put_mid c.args.to (c.args.to + c.args.count - c.args.to) c.args.dst.now _ c.args.end (omega arith) (omega arith) (omega (arith, long, part))
