-- One key column more.
use Rattle.std.proofs.Common.{◌∙◌, Some, ap, sym}
use Rattle.vx_model.specs.Column.{Column}
use Rattle.vx_join.specs.Cells.{rows_of}
use Rattle.vx_join.specs.Numbers.{types_of}
use Rattle.vx_join.proofs.Tied.{chosen_more}
use Rattle.vx_join.proofs.keys.key_columns.Goals as goal

pub loop-i-preserved : goal.loop-i-preserved
loop-i-preserved c =
    let columns = c.args.columns.now in let numbers = c.args.numbers.now in let k = c.loop-i.i-index in
    let x = c.deref.result.now in let a = c.in_ok-execute.field-0 in let now = c.in_ok-execute.ensures.same in
    let got = c.get.ensures ∙ ap Some (sym c.deref.ensures) in
    record {
      rows = ap rows_of c.in_ok-push.ensures.items ∙ chosen_more (λ (y : Column). y.rows) columns numbers k c.loop-i.keys.items x a c.loop-i.invariant.rows c.loop-i-test.true got now.rows;
      types = ap types_of c.in_ok-push.ensures.items ∙ chosen_more (λ (y : Column). y.dtype) columns numbers k c.loop-i.keys.items x a c.loop-i.invariant.types c.loop-i-test.true got now.dtype;
    }
