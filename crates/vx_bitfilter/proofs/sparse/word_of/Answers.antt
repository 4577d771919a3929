use Rattle.std.proofs.Common.{refl, ap, ◌∙◌, arith}
use mir.Val.{bool_byte}
use Rattle.vx_bits.proofs.WordBits.{word_bits-none}
use Rattle.vx_bitfilter.proofs.SparseBits.{next_place}
use Rattle.vx_bitfilter.proofs.sparse.word_of.Goals as goal

pub loop-k-init : goal.loop-k-init
loop-k-init c = record { value = word_bits-none 0; below = omega arith }

pub loop-k-preserved : goal.loop-k-preserved
loop-k-preserved c =
    next_place c.args.src.now.bits c.args.places.now c.loop-k.word _ c.loop-k.k c.from.result c.loop-k-test.true c.requires.short (c.from.ensures ∙ ap bool_byte c.value.ensures) refl c.loop-k.invariant
