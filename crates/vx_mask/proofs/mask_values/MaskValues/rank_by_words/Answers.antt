use Rattle.std.proofs.Common.{length, ap, ◌∙◌, arith}
use Rattle.vx_bits.specs.BitBuffer.{PlacedBits, true_count_of}
use Rattle.vx_mask.specs.MaskValues.{PartialMask}
use Rattle.vx_mask.proofs.BlockCounts.{count_all}
use Rattle.vx_mask.proofs.mask_values.MaskValues.rank_by_words.Goals as goal

pub rank_from-requires-clause-spare : goal.rank_from-requires-clause-spare
rank_from-requires-clause-spare c =
    let bits = c.new-words.result in
    let same = c.new-words.ensures ∙ ap (λ (p : PlacedBits). p.bits) c.share.ensures ∙ ap (λ (m : PartialMask). m.bits.bits) c.self.view_is in
    omega (arith, c.requires, ap true_count_of same, ap length same, c.len.ensures, c.len.type_inv, count_all bits 1180591620717411303360 (omega (arith, ap length same, c.len.ensures, c.len.type_inv)))
