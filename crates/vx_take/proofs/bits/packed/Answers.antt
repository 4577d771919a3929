use Rattle.std.proofs.Common.{◌*◌, ◌-◌, drop, arith}
use Rattle.std.proofs.lemmas.List.{length-take}
use Rattle.std.proofs.lemmas.List.Elements.{All-drop, All-take}
use Rattle.vx_take.proofs.PackedBits.{word_more}
use Rattle.vx_take.proofs.bits.packed.Goals as goal

pub loop-w-preserved : goal.loop-w-preserved
loop-w-preserved g c =
    word_more (g.B.BitOf.bit c.args.bit.now) c.args.places.now c.loop-w.w c.min-end.result c.packed_word.result c.loop-w.bits _ (omega arith) c.min-end.ensures c.loop-w.invariant c.packed_word.ensures c.in_ok-append_word.ensures.ok

pub packed_word-requires-clause-few : goal.packed_word-requires-clause-few
packed_word-requires-clause-few g c =
    omega (arith, length-take (c.min-end.result - 64 * c.loop-w.w) (drop (64 * c.loop-w.w) c.args.places.now), c.min-end.ensures)

pub packed_word-requires-clause-has : goal.packed_word-requires-clause-has
packed_word-requires-clause-has g c =
    let has = g.B.BitOf.has c.args.bit.now in
    All-take has (c.min-end.result - 64 * c.loop-w.w) (drop (64 * c.loop-w.w) c.args.places.now) (All-drop has (64 * c.loop-w.w) c.args.places.now c.requires)
