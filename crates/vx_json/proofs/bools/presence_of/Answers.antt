-- The bits where an item is null.
use Rattle.std.proofs.Common.{◌≡◌, true, Some, sym, ap, ◌∙◌}
use Rattle.std.proofs.lemmas.Result.{err_from_is_err_and}
use Rattle.serde_json.specs.View.{items_view}
use Rattle.vx_json.specs.Bools.{has_null, presence, presence_of}
use Rattle.vx_json.proofs.ItemBits.{each-presence, each-presence_fails}
use Rattle.vx_json.proofs.bools.presence_of.Goals as goal

pub returns : goal.returns
returns c =
    let ds = items_view c.args.items.now.items in
    let found : has_null ds ≡ true = cc in
    let read : Some c.in_ok-read_bits.field-0.bits ≡ Some (presence ds) =
    sym c.in_ok-read_bits.ensures.bits ∙ rw c.deref.ensures.value (each-presence ds) in
    rw found (ap Some (sym read))

pub returns-in_err-read_bits : goal.returns-in_err-read_bits
returns-in_err-read_bits c =
    let r = c.from_residual in
    let p = err_from_is_err_and r.result r.ensures.1 in
    rw (p.1, p.2) (each-presence_fails (items_view c.deref.result.now) c.in_err-read_bits.field-0.0 (presence_of (items_view c.args.items.now.items)) c.in_err-read_bits.ensures.bits)
