-- The parts stay sound.
use Rattle.std.proofs.Common.{length, ◌∙◌}
use Rattle.vx_model.specs.ListView.{listview_spans}
use Rattle.vx_model.specs.Valid.{nullability_by}
use Rattle.vx_model.proofs.ListForms.{fault-listview-same}
use Rattle.vx_model.proofs.ListRows.{fit-listview}
use Rattle.vx_column.specs.Validity.{valid_of}
use Rattle.vx_dispatch.proofs.ListSteps.{fits_same}
use Rattle.vx_dispatch.proofs.lists.views_with.Goals as goal

pub with_parts-requires-clause-valid : goal.with_parts-requires-clause-valid
with_parts-requires-clause-valid c =
    let p = c.args.array.now in let w = valid_of c.args.validity in let h = c.offsets.ensures.valid in
    rw (c.share-offsets.ensures ∙ c.offsets.ensures.value, c.share-sizes.ensures ∙ c.sizes.ensures.value)
    (fault-listview-same p c.args.elements w h c.requires.elements.rows (fits_same p.valid w (nullability_by p.valid) (length (listview_spans p).spans) (fit-listview p h) c.requires.left))
