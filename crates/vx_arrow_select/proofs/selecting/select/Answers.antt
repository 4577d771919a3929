-- The rows at the picks that the steps leave, or why the column is refused there.
use Rattle.std.proofs.Common.{map, refl}
use Rattle.std.proofs.lemmas.Result.{err_from_is_err_and}
use Rattle.vx_arrow.specs.Image.{step_parts}
use Rattle.vx_arrow_columns.specs.Picks.{picking_of}
use Rattle.vx_arrow_select.proofs.Answers.{answered, composed_by}
use Rattle.vx_arrow_select.proofs.selecting.select.Goals as goal

pub returns-clause-answer : goal.returns-clause-answer
returns-clause-answer c =
    let steps = map step_parts c.args.steps.now in
    let q = picking_of c.deref.result.now c.deref-2.result.now 0 in
    answered c.args.nodes.now steps q c.take.new.rooms
    (composed_by c.len_of.result _ steps _ c.deref.result.now _ c.deref-2.result.now c.len_of.ensures c.deref.ensures.value c.deref-2.ensures.value c.in_ok-picks.ensures.picks) c.in_ok-take.ensures.picked

pub returns-clause-bytes : goal.returns-clause-bytes
returns-clause-bytes c = record {
  picks = picking_of c.deref.result.now c.deref-2.result.now 0;
  composed = composed_by c.len_of.result _ (map step_parts c.args.steps.now) _ c.deref.result.now _ c.deref-2.result.now c.len_of.ensures c.deref.ensures.value c.deref-2.ensures.value c.in_ok-picks.ensures.picks;
  taken = refl;
  bytes = c.in_ok-take.ensures.bytes;
}

pub returns-in_err-take-clause-fault : goal.returns-in_err-take-clause-fault
returns-in_err-take-clause-fault c =
    let r = err_from_is_err_and c.from_residual-in_err-take.result c.from_residual-in_err-take.ensures.1 in
    rw (r.1, r.2) (record {
      meant = c.in_ok-picks.ensures.meant;
      picks = picking_of c.deref.result.now c.deref-2.result.now 0;
      composed = composed_by c.len_of.result _ (map step_parts c.args.steps.now) _ c.deref.result.now _ c.deref-2.result.now c.len_of.ensures c.deref.ensures.value c.deref-2.ensures.value c.in_ok-picks.ensures.picks;
      holds = c.in_err-take.ensures.refused;
    })

pub returns-clause-needs : goal.returns-clause-needs
returns-clause-needs c = record {
  picks = picking_of c.deref.result.now c.deref-2.result.now 0;
  composed = composed_by c.len_of.result _ (map step_parts c.args.steps.now) _ c.deref.result.now _ c.deref-2.result.now c.len_of.ensures c.deref.ensures.value c.deref-2.ensures.value c.in_ok-picks.ensures.picks;
  needs_are = c.in_ok-take.ensures.needs;
}

pub returns-in_err-take-clause-told : goal.returns-in_err-take-clause-told
returns-in_err-take-clause-told c =
    let r = err_from_is_err_and c.from_residual-in_err-take.result c.from_residual-in_err-take.ensures.1 in
    rw (r.1, r.2) (record {
      meant = c.in_ok-picks.ensures.meant;
      picks = picking_of c.deref.result.now c.deref-2.result.now 0;
      composed = composed_by c.len_of.result _ (map step_parts c.args.steps.now) _ c.deref.result.now _ c.deref-2.result.now c.len_of.ensures c.deref.ensures.value c.deref-2.ensures.value c.in_ok-picks.ensures.picks;
      holds = c.in_err-take.ensures.told;
    })
