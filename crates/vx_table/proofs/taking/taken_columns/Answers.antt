-- One column more.
use Rattle.std.proofs.Common.{◌∙◌, ◌++◌, ◌∷◌, [], Some, List, take, ap, sym, subst}
use Rattle.vx_types.specs.TypeTree.{also_nullable}
use Rattle.vx_pieces.specs.Indices.{index_nullability, index_picks, index_value}
use Rattle.vx_model.specs.Column.{Column}
use Rattle.vx_table.specs.Taken.{AreTaken}
use Rattle.vx_table.proofs.Lists.{take_get}
use Rattle.vx_table.proofs.Tables.{taken_more}
use Rattle.vx_table.proofs.taking.taken_columns.Goals as goal

pub loop-i-preserved : goal.loop-i-preserved
loop-i-preserved c =
    let columns = c.args.columns.now in let i = c.loop-i.i in let v = index_value c.args.indices.now in
    let x = c.deref.result.now in let a = c.in_ok-taken_column.field-0 in let now = c.in_ok-taken_column.ensures in
    let P : List Column → Type 0 = λ cs. AreTaken cs (λ t. also_nullable t (index_nullability v)) (index_picks v) (c.loop-i.taken.items ++ a ∷ []) in
    rw c.in_ok-push.ensures.items
    (subst P (sym (take_get columns i x (c.get.ensures ∙ ap Some (sym c.deref.ensures))))
    (taken_more (take i columns) (λ t. also_nullable t (index_nullability v)) (index_picks v) c.loop-i.taken.items x a c.loop-i.invariant now.dtype now.rows now.unwrapped))
