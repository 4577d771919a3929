-- One column more.
use Rattle.std.proofs.Common.{◌∙◌, ◌++◌, ◌∷◌, [], Some, take, ap, sym, append_assoc}
use Rattle.vx_table.proofs.Lists.{take_get}
use Rattle.vx_table.proofs.beside.append_columns.Goals as goal

pub loop-i-preserved : goal.loop-i-preserved
loop-i-preserved c =
    let columns = c.args.columns.now in let i = c.loop-i.i in let x = c.share.result in let to = c.args.to.now.items in
    c.in_ok-push.ensures.items
    ∙ ap (λ l. l ++ x ∷ []) c.loop-i.invariant
    ∙ append_assoc to (take i columns) (x ∷ [])
    ∙ ap (λ l. to ++ l) (sym (take_get columns i x (c.get.ensures ∙ ap Some (sym c.share.ensures))))
