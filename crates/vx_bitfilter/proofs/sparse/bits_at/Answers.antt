use Rattle.std.proofs.Common.{◌≡◌, ◌-◌, ◌*◌, ◌++◌, min, length, drop, take, sym, ap, ◌∙◌, arith}
use Rattle.std.proofs.lemmas.List.{length-drop, length-take}
use Rattle.vx_bits.specs.Words.{word_bits}
use Rattle.vx_bitfilter.proofs.SparseBits.{bits_at, next_places}
use Rattle.vx_bitfilter.proofs.sparse.bits_at.Goals as goal

pub loop-k-preserved : goal.loop-k-preserved
loop-k-preserved c =
    let k = c.loop-k.k in
    let places = c.args.places.now in
    let n = c.min-end.result - 64 * k in
    let behind = drop (64 * k) places in
    let cut : n ≡ min 64 (length behind) = omega (arith, length-drop (64 * k) places, c.min-end.ensures, c.div_ceil-k-end.ensures, c.loop-k-test.true) in
    let long : length (take n behind) ≡ n = omega (arith, length-take n behind, cut) in
    c.in_ok-append_word.ensures.ok
    ∙ ap (λ m. c.loop-k.kept ++ word_bits c.word_of.result m) (sym long)
    ∙ ap (λ l. c.loop-k.kept ++ l) c.word_of.ensures
    ∙ ap (λ l. l ++ bits_at c.args.src.now.bits (take n behind)) c.loop-k.invariant
    ∙ sym (next_places c.args.src.now.bits places k n cut)
