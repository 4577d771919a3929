use Rattle.std.proofs.Common.{ap, ◌∙◌, sym}
use Rattle.std.proofs.lemmas.Result.{IfOk-weaker}
use Rattle.std.proofs.lemmas.Simd.{map-map}
use Rattle.vx_mask.specs.Mask.{at_front}
use Rattle.vx_take.specs.Picks.{at, item_at, pick_of}
use Rattle.vx_take.proofs.bits.gather_bits.Goals as goal

pub returns : goal.returns
returns c =
    let fill = c.args.fill in
    let bits = c.args.src.now.bits in
    let same = sym (map-map (item_at fill bits) pick_of c.places.result.now) ∙ ap (at fill bits) c.places.ensures.value in
    IfOk-weaker c.packed.result _ _ (λ b h. h ∙ ap at_front same) c.packed.ensures
