-- One column more.
use Rattle.std.proofs.Common.{◌∙◌, ◌++◌, ◌∷◌, [], Some, take, ap, sym}
use Rattle.std.specs.Prelude.{slice_get, slice_index}
use Rattle.std.proofs.lemmas.List.{take_more}
use Rattle.vx_table.specs.Taken.{items_by_number}
use Rattle.vx_table.proofs.Lists.{filter_map-more}
use Rattle.vx_table.proofs.projecting.chosen_columns.Goals as goal

pub loop-i-preserved : goal.loop-i-preserved
loop-i-preserved c =
    let columns = c.args.columns.now in let numbers = c.args.projection.now in let k = c.loop-i.i-index in let x = c.share.result in
    c.in_ok-push.ensures.items
    ∙ ap (λ l. l ++ x ∷ []) c.loop-i.invariant
    ∙ sym (filter_map-more (slice_get columns) (take k numbers) (slice_index numbers k) x (c.get.ensures ∙ ap Some (sym c.share.ensures)))
    ∙ ap (λ ns. items_by_number ns columns) (sym (take_more numbers k 0 c.loop-i-test.true))
