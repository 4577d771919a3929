use Rattle.std.proofs.Common.{ℕ, ◌++◌, ◌∷◌, [], ◌∙◌, ap, ap₂, sym, get_or}
use Rattle.hex.specs.Hex.{lower_digits}
use Rattle.vx_quote.proofs.Quotes.{escaped_byte}
use Rattle.vx_quote.proofs.quoted.push_escape.Goals as goal

pub returns : goal.returns
returns c = λ _.
    let text = c.args.text.now.items in
    c.in_ok-extend_from_slice.ensures.items
    ∙ ap₂ (λ (m n : ℕ). text ++ 92 ∷ 120 ∷ get_or lower_digits m 0 ∷ get_or lower_digits n 0 ∷ []) c.from.ensures c.from-2.ensures
    ∙ sym (ap (λ l. text ++ l) (escaped_byte c.args.byte c.requires))
