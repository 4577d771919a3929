use Rattle.std.proofs.Common.{length, ap, ◌∙◌}
use Rattle.std.proofs.lemmas.Result.{IfOk-weaker}
use Rattle.vx_mask.specs.Mask.{at_front}
use Rattle.vx_bitfilter.proofs.SparseBits.{bits_at, bits_at_the_set, set_within}
use Rattle.vx_bitfilter.proofs.sparse.filter_sparse.Goals as goal

pub bits_at-requires : goal.bits_at-requires
bits_at-requires c = set_within c.args.mask.now.bits.bits c.in-Some.indices.now (length c.args.src.now.bits) c.in-Some.ensures.set c.requires

pub returns-in-Some : goal.returns-in-Some
returns-in-Some c =
    let mask = c.args.mask.now.bits.bits in
    let src = c.args.src.now.bits in
    let is = ap (bits_at src) c.in-Some.ensures.set ∙ bits_at_the_set mask src c.requires in
    IfOk-weaker c.bits_at.result _ _ (λ b h. h ∙ ap at_front is) c.bits_at.ensures
