-- A byte that doesn't stand for itself is its two digits behind `\x`.
use Rattle.std.proofs.Common.{ℕ, ◌++◌, ◌∷◌, [], ◌∙◌, ap, ap₂, sym, get_or, append_assoc, arith}
use Rattle.hex.specs.Hex.{lower_digits}
use Rattle.vx_quote.proofs.Quotes.{escaped_byte}
use Rattle.vx_quote.proofs.quoted.put_quoted.Goals as goal

pub returns-else-is_listed-clause-put : goal.returns-else-is_listed-clause-put
returns-else-is_listed-clause-put c =
    let text = c.args.text.now.items in
    let high = c.from.result in
    let low = c.from-else-is_listed.result in
    let digit : ℕ → ℕ = λ n. get_or lower_digits n 0 in
    c.push_reserved-else-is_listed-4.ensures.items
    ∙ ap (λ l. l ++ digit low ∷ []) (c.push_reserved-else-is_listed-3.ensures.items
    ∙ ap (λ l. l ++ digit high ∷ []) (c.push_reserved-else-is_listed-2.ensures.items
    ∙ ap (λ l. l ++ 120 ∷ []) c.push_reserved-else-is_listed.ensures.items))
    ∙ grind (arith, append_assoc)
    ∙ ap₂ (λ (m n : ℕ). text ++ 92 ∷ 120 ∷ digit m ∷ digit n ∷ []) c.from.ensures c.from-else-is_listed.ensures
    ∙ sym (ap (λ l. text ++ l) (escaped_byte c.args.byte (sym c.is_listed.ensures ∙ c.if-is_listed.false)))
