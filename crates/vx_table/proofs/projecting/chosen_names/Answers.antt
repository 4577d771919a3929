-- One name more.
use Rattle.std.proofs.Common.{◌∙◌, ◌++◌, ◌∷◌, [], take, ap, sym}
use Rattle.std.specs.Prelude.{slice_get, slice_index}
use Rattle.std.proofs.lemmas.List.{take_more}
use Rattle.vx_table.specs.Table.{names_of}
use Rattle.vx_table.specs.Taken.{items_by_number}
use Rattle.vx_table.proofs.Lists.{filter_map-more}
use Rattle.vx_table.proofs.Tables.{name_at, names_of-more}
use Rattle.vx_table.proofs.projecting.chosen_names.Goals as goal

pub loop-i-preserved : goal.loop-i-preserved
loop-i-preserved c =
    let names = c.args.names.now in let numbers = c.args.projection.now in let k = c.loop-i.i-index in
    let copy = c.in_ok-clone.field-0 in
    ap names_of c.in_ok-push.ensures.items
    ∙ names_of-more c.loop-i.copy.items copy
    ∙ ap (λ l. l ++ names_of (copy ∷ [])) c.loop-i.invariant
    ∙ sym (filter_map-more (slice_get (names_of names)) (take k numbers) (slice_index numbers k) _
    (name_at names (slice_index numbers k) c.index-names-i.result copy (c.requires k 0 c.loop-i-test.true) c.index-names-i.is c.in_ok-clone.ensures.cases))
    ∙ ap (λ ns. items_by_number ns (names_of names)) (sym (take_more numbers k 0 c.loop-i-test.true))
