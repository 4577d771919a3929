-- The mask that was read is the one that is stated.
use Rattle.std.proofs.Common.{refl}
use Rattle.std.proofs.lemmas.Result.{err_from_is_err_and}
use Rattle.serde_json.specs.View.{view}
use Rattle.vx_document.specs.Steps.{filter_seen}
use Rattle.vx_document.proofs.SeenSteps.{filter-fails, stated}
use Rattle.vx_document.proofs.steps.filter_of.Goals as goal

pub returns : goal.returns
unfolding filter_seen
returns c =
    let m = c.in_ok-mask_of.field-0 in
    rw (c.in_ok-member.ensures.value, stated (view c.in_ok-member.field-0.now) m c.in_ok-mask_of.ensures.bits c.in_ok-mask_of.ensures.kept) refl

pub returns-in_err-mask_of : goal.returns-in_err-mask_of
returns-in_err-mask_of c =
    let r = c.from_residual-in_err-mask_of in
    let p = err_from_is_err_and r.result r.ensures.1 in
    rw (p.1, p.2) (filter-fails (view c.args.value.now) (view c.in_ok-member.field-0.now) c.in_err-mask_of.field-0.0 c.in_ok-member.ensures.value c.in_err-mask_of.ensures.bits)
