-- One column more.
use Rattle.std.proofs.Common.{◌+◌, ◌∙◌, Bool, Some, cond, length, drop, ap, sym}
use Rattle.std.specs.Prelude.{◌==◌, not}
use Rattle.std.specs.List.{position_from}
use Rattle.vx_model.specs.Column.{Column}
use Rattle.vx_table.proofs.Lists.{position-more}
use Rattle.vx_table.proofs.Tables.{is_other, is_same}
use Rattle.vx_table.proofs.table.first_of_other_length.Goals as goal

pub returns-then-len : goal.returns-then-len
returns-then-len c =
    let columns = c.args.columns.now in let i = c.loop-i.i in let n = c.args.len in let x = c.deref.result.now in
    let p = λ (y : Column). not (length y.rows == n) in
    let rest = position_from p (i + 1) (drop (i + 1) columns) in
    sym (c.loop-i.invariant ∙ position-more p columns i x (c.get.ensures ∙ ap Some (sym c.deref.ensures))
    ∙ ap (λ (b : Bool). cond b (Some i) rest) (is_other (length x.rows) n (λ e. c.if-len.true (c.len.ensures ∙ e))))

pub loop-i-preserved : goal.loop-i-preserved
loop-i-preserved c =
    let columns = c.args.columns.now in let i = c.loop-i.i in let n = c.args.len in let x = c.deref.result.now in
    let p = λ (y : Column). not (length y.rows == n) in
    let rest = position_from p (i + 1) (drop (i + 1) columns) in
    c.loop-i.invariant ∙ position-more p columns i x (c.get.ensures ∙ ap Some (sym c.deref.ensures))
    ∙ ap (λ (b : Bool). cond b (Some i) rest) (is_same (length x.rows) n (sym c.len.ensures ∙ c.if-len.false))
