use Rattle.std.proofs.Common.{◌-◌, ◌++◌, ◌∙◌, ◌≤◌, length, length-drop, ap, drop, arith}
use Rattle.std.proofs.lemmas.List.{take_all}
use Rattle.vx_print.proofs.cells.push_block.Goals as goal

pub returns : goal.returns
returns c = λ _.
    let at = c.put_joined-at.result in
    let dst = c.put_joined-at.new.dst in
    let short : length (drop at dst) ≤ 4352 - at = omega (arith, length-drop at dst) in
    c.in_ok-extend_from_slice.ensures.items
    ∙ ap (λ l. c.args.text.now.items ++ l) (take_all (4352 - at) (drop at dst) short ∙ c.put_joined-at.ensures.put)
