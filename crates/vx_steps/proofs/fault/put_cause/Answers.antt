use Rattle.std.proofs.Common.{◌≡◌, ◌++◌, ◌∙◌, ℕ, List, take, ap, sym, append_assoc}
use Rattle.std.specs.Prelude.{codes, decimal}
use Rattle.std.specs.Fmt.{signed_decimal}
use Rattle.vx_steps.specs.Messages.{cause_text}
use Rattle.vx_steps.proofs.fault.put_cause.Goals as goal

joined : (a b c d e : List ℕ) → (((a ++ b) ++ c) ++ d) ++ e ≡ a ++ (((b ++ c) ++ d) ++ e)
joined a b c d e = simp append_assoc

pub returns-in-OutOfBounds-clause-put : goal.returns-in-OutOfBounds-clause-put
returns-in-OutOfBounds-clause-put c =
    let arm = c.in-OutOfBounds in
    let before = take c.args.at c.args.dst.now in
    c.put_counted-in-OutOfBounds.ensures.put
    ∙ ap (λ l. (l ++ codes " of ") ++ decimal arm.len) (c.put_index-at.ensures.put ∙ ap (λ l. l ++ signed_decimal arm.index) c.put-at.ensures.put)
    ∙ joined before (codes "OutOfBounds ") (signed_decimal arm.index) (codes " of ") (decimal arm.len)
    ∙ ap (λ l. before ++ l) (sym (ap cause_text arm.is))
