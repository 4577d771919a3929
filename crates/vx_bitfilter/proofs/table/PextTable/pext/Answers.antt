use Rattle.std.proofs.Common.{◌+◌, ◌*◌, ◌/◌, ◌^◌, refl, ap, ap₂, ◌∙◌, arith}
use Rattle.std.specs.Int.RustNames.{count_ones}
use Rattle.std.proofs.lemmas.Nat.{and_mask}
use Rattle.vx_bitfilter.specs.Pext.{pext}
use Rattle.vx_bitfilter.proofs.PackedBytes.{all_packed, none_packed, part_packed}
use Rattle.vx_bitfilter.proofs.table.PextTable.pext.Goals as goal

pub loop-k-init : goal.loop-k-init
loop-k-init c = none_packed c.args.src c.args.mask

pub loop-k-preserved : goal.loop-k-preserved
loop-k-preserved c =
    let k = c.loop-k.k in
    let src = and_mask (c.args.src / 2 ^ (8 * k)) 8 in
    let mask = and_mask (c.args.mask / 2 ^ (8 * k)) 8 in
    part_packed c.args.src c.args.mask c.loop-k.packed c.loop-k.held (8 * k) 8 _ c.entry.result _ _ (omega arith) (omega arith) (c.entry.ensures ∙ ap₂ pext src mask) refl (ap (λ m. c.loop-k.held + count_ones m) mask) c.loop-k.invariant

pub returns : goal.returns
returns c = all_packed c.args.src c.args.mask c.loop-k.packed c.loop-k.held (8 * c.loop-k.k) (omega arith) c.loop-k.invariant
