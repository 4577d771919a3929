-- The record alone stands behind the text: nothing is behind the end of the buffer.
use Rattle.std.proofs.Common.{◌-◌, ◌++◌, ◌∙◌, ◌≤◌, length, length-drop, ap, drop, append-nil, arith}
use Rattle.std.proofs.lemmas.List.{drop_all, take_all}
use Rattle.vx_print.specs.Text.{primitive_text}
use Rattle.vx_print.proofs.cells.push_record.Goals as goal

pub returns : goal.returns
returns c = λ _.
    let at = c.put_primitive-at.result in
    let dst = c.put_primitive-at.new.dst in
    let number = primitive_text c.args.ptype c.args.bytes.now in
    let short : length (drop at dst) ≤ 4352 - at = omega (arith, length-drop at dst) in
    c.in_ok-extend_from_slice.ensures.items
    ∙ ap (λ l. c.args.text.now.items ++ l) (take_all (4352 - at) (drop at dst) short
    ∙ c.put_primitive-at.ensures.put
    ∙ ap (λ l. number ++ l) (drop_all 4352 c.args.dst.now (omega arith))
    ∙ append-nil number)
