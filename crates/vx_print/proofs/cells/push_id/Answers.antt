-- The id and the colon alone stand behind the text: nothing is behind the end of the buffer.
use Rattle.std.proofs.Common.{◌≡◌, ◌-◌, ◌<◌, ◌≤◌, ◌++◌, ◌∷◌, [], ◌∙◌, ℕ, length, length-drop, ap, drop, set, decimal, arith}
use Rattle.std.specs.Prelude.{codes}
use Rattle.std.proofs.lemmas.List.{drop-set, drop_all, take_all}
use Rattle.vx_print.proofs.cells.push_id.Goals as goal

pub returns : goal.returns
returns c = λ _.
    let at = c.put_unsigned-at.result in
    let dst = c.put_unsigned-at.new.dst in
    let old = c.args.dst.now in
    let short : length (drop at dst) ≤ 4352 - at = omega (arith, length-drop at dst) in
    let below : 4351 < length old = omega arith in
    let colon : drop 4351 (set old 4351 58) ≡ 58 ∷ [] = drop-set old 4351 58 below ∙ ap (λ l. 58 ∷ l) (drop_all 4352 old (omega arith)) in
    c.in_ok-extend_from_slice.ensures.items
    ∙ ap (λ l. c.args.text.now.items ++ l) (take_all (4352 - at) (drop at dst) short
    ∙ c.put_unsigned-at.ensures.put
    ∙ ap (λ l. decimal c.from.result ++ l) colon
    ∙ ap (λ (n : ℕ). decimal n ++ codes ":") c.from.ensures)
