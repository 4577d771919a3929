use Rattle.std.proofs.Common.{◌-◌, length, take, drop, ap, ◌∙◌, arith}
use Rattle.std.proofs.lemmas.List.{length-append, length-drop, length-take-le}
use Rattle.vx_chunked.proofs.Ascends.{ascend_few}
use Rattle.vx_chunked.proofs.step.put_chunk.Goals as goal

pub grow-requires-clause-part : goal.grow-requires-clause-part
grow-requires-clause-part g c = omega (arith, ascend_few 0 1024 (g.C.Cursor.taken c.args.cursor.now) (omega arith) c.requires.ascend, c.requires.count)

pub take_chunk-requires-clause-room : goal.take_chunk-requires-clause-room
take_chunk-requires-clause-room g c =
    let all = c.as_mut_slice.result.now in
    let filled = c.len-filled.result in
    let few = length-take-le c.args.count c.args.scratch.now (omega (arith, ascend_few 0 1024 (g.C.Cursor.taken c.args.cursor.now) (omega arith) c.requires.ascend, c.requires.count, c.requires.scratch)) in
    let long = ap length (c.as_mut_slice.ensures.value ∙ c.grow.ensures.items) ∙ length-append c.args.out.now.items (take c.args.count c.args.scratch.now) in
    omega (arith, length-take-le (length all - filled) (drop filled all) (omega (arith, length-drop filled all)), long, few, c.len-filled.ensures, c.requires.count)
