use Rattle.std.proofs.Common.{◌*◌, ◌/◌, ◌%◌, ◌^◌, ap, ◌∙◌}
use Rattle.vx_bits.proofs.PackedBits.{packed_items}
use Rattle.vx_bits.proofs.bools.byte_of.Goals as goal

pub returns : goal.returns
returns c =
    ap (λ x. x * 0x0102_0408_1020_4080 % 2 ^ 64 / 2 ^ 56) c.from_le_bytes-spread.ensures
    ∙ packed_items c.args.bits.now c.args.start c.requires _ _ _ _ _ _ _ _ c.from.ensures c.from-2.ensures c.from-3.ensures c.from-4.ensures c.from-5.ensures c.from-6.ensures c.from-7.ensures c.from-8.ensures
