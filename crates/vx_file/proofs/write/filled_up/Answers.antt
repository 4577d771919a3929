use Rattle.std.proofs.Common.{◌≡◌, ◌-◌, ◌++◌, length, get_or, replicate, vec_len, ap, ap₂, ◌∙◌, arith}
use Rattle.std.proofs.lemmas.List.{take_all}
use Rattle.vx_file.proofs.write.filled_up.Goals as goal

pub returns : goal.returns
returns c =
    let numbers = c.args.numbers.now in
    let last = get_or numbers (length numbers - 1) 0 in
    let front = c.in_ok-extend_from_slice.ensures.items ∙ ap (λ l. l ++ numbers) c.in_ok-chunk.ensures.items in
    let left : 1024 - vec_len c.extend_from_slice.new.self ≡ 1024 - length numbers = omega (arith, ap length front, c.extend_from_slice.new.self.ok.0) in
    c.in_ok-resize.ensures.items
    ∙ ap₂ (λ l n. l ++ replicate n last) (take_all 1024 c.extend_from_slice.new.self.items (omega (arith, ap length front)) ∙ front) left
