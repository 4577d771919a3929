use Rattle.std.proofs.Common.{ℕ, map, ap, ◌∙◌, sym}
use Rattle.std.specs.Prelude.{is_some}
use Rattle.std.proofs.lemmas.Result.{IfOk-weaker}
use Rattle.std.proofs.lemmas.Simd.{map-map}
use Rattle.vx_mask.specs.Mask.{at_front}
use Rattle.vx_take.specs.Picks.{pick_of}
use Rattle.vx_take.proofs.bits.valid_bits.Goals as goal

pub returns : goal.returns
returns c =
    let there = is_some {T = ℕ} in
    let same = sym (map-map there pick_of c.places.result.now) ∙ ap (map there) c.places.ensures.value in
    IfOk-weaker c.packed.result _ _ (λ b h. h ∙ ap at_front same) c.packed.ensures
