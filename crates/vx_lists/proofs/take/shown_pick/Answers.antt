-- The pick by its bit.
use Rattle.std.proofs.Common.{◌≡◌, ◌∙◌, Bool, cond, length, get_or, None, ap, sym}
use Rattle.vx_lists.proofs.TakenLists.{get_or-shown}
use Rattle.vx_lists.proofs.take.shown_pick.Goals as goal

pub returns-then-value-clause-value : goal.returns-then-value-clause-value
returns-then-value-clause-value c =
    let picks = c.args.picks.now.picks in let k = c.args.k in let bits = c.in-Some.bits.now.bits in
    let long : length bits ≡ length picks = rw c.in-Some.is at c.requires.long in
    rw c.in-Some.is
    (c.get-then-value.ensures.value ∙ sym (get_or-shown bits picks k long ∙ ap (λ (b : Bool). cond b (get_or picks k None) None) (sym c.value.ensures ∙ c.if-value.true)))

pub returns-else-value-clause-value : goal.returns-else-value-clause-value
returns-else-value-clause-value c =
    let picks = c.args.picks.now.picks in let k = c.args.k in let bits = c.in-Some.bits.now.bits in
    let long : length bits ≡ length picks = rw c.in-Some.is at c.requires.long in
    rw c.in-Some.is
    (sym (get_or-shown bits picks k long ∙ ap (λ (b : Bool). cond b (get_or picks k None) None) (sym c.value.ensures ∙ c.if-value.false)))
