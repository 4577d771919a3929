use Rattle.std.proofs.Common.{◌≡◌, ℕ, Bool, List, length, ap, ◌∙◌}
use Rattle.std.proofs.lemmas.Result.{IfOk-weaker}
use Rattle.vx_mask.specs.Mask.{at_front}
use Rattle.vx_mask.specs.MaskValues.{PartialMask}
use Rattle.vx_mask.specs.Positions.{set_of}
use Rattle.vx_bitfilter.proofs.SparseBits.{bits_at, bits_at_the_set, set_within}
use Rattle.vx_bitfilter.proofs.sparse.unlisted.Goals as goal

-- the list has the mask's set positions
listed : (places : List ℕ) (bits : List Bool) (shared mask : PartialMask) → places ≡ set_of bits → bits ≡ shared.bits.bits → shared ≡ mask → places ≡ set_of mask.bits.bits
listed places bits shared mask e f g = e ∙ ap set_of (f ∙ ap (λ (m : PartialMask). m.bits.bits) g)

pub bits_at-requires : goal.bits_at-requires
bits_at-requires c =
    let list = listed _ _ _ c.args.mask.now c.in-Some.ensures.set c.in_ok-listed.ensures.bits c.share.ensures in
    set_within c.args.mask.now.bits.bits c.in-Some.indices.now (length c.args.src.now.bits) list c.requires

pub returns-in-Some : goal.returns-in-Some
returns-in-Some c =
    let mask = c.args.mask.now.bits.bits in
    let src = c.args.src.now.bits in
    let list = listed _ _ _ c.args.mask.now c.in-Some.ensures.set c.in_ok-listed.ensures.bits c.share.ensures in
    let is = ap (bits_at src) list ∙ bits_at_the_set mask src c.requires in
    IfOk-weaker c.bits_at.result _ _ (λ b h. h ∙ ap at_front is) c.bits_at.ensures
