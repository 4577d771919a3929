use Rattle.std.proofs.Common.{◌≡◌, ◌+◌, ◌-◌, ◌*◌, ◌/◌, ◌++◌, Bool, List, IfOk, length, take, drop, ap, sym, subst, ◌∙◌, arith}
use Rattle.std.proofs.lemmas.List.{length-drop, length-take-le}
use Rattle.vx_bits.specs.BitBuffer.{PlacedBits, number_of}
use Rattle.vx_bits.specs.Words.{word_bits}
use Rattle.vx_bits.proofs.WordLists.{take_all_words, with_next_word}
use Rattle.vx_bits.proofs.bit_buffer.BitBuffer.from_bools.Goals as goal

pub loop-i-preserved : goal.loop-i-preserved
loop-i-preserved c =
    let bits = c.args.bits.now in
    let i = c.loop-i.i in
    let whole : 64 * i + 64 - 64 * i ≡ 64 = omega arith in
    c.in_ok-append_word.ensures.ok
    ∙ ap (λ l. l ++ word_bits c.whole_word.result 64) c.loop-i.invariant
    ∙ with_next_word bits i c.whole_word.result 64 (omega (arith, c.loop-i-test.true)) (c.whole_word.ensures ∙ ap (λ n. number_of (take n (drop (64 * i) bits))) whole)

pub returns : goal.returns
returns c =
    let bits = c.args.bits.now in
    let w = length bits / 64 in
    let behind = drop (64 * w) bits in
    let rest = take (length bits - 64 * w) behind in
    let long : length rest ≡ length bits - 64 * w = length-take-le (length bits - 64 * w) behind (omega (arith, length-drop (64 * w) bits)) in
    let ended : c.loop-i.i ≡ w = omega (arith, c.loop-i-test.false, c.loop-i.auto.i-end) in
    let word = c.bit_by_bit.result in
    let all =
    c.in_ok-append_word-2.ensures.ok
    ∙ ap (λ l. l ++ word_bits word (length rest)) (c.loop-i.invariant ∙ ap (λ k. take (64 * k) bits) ended)
    ∙ with_next_word bits w word (length rest) (omega (arith, long)) (c.bit_by_bit.ensures ∙ ap (λ n. number_of (take n behind)) (sym long))
    ∙ take_all_words bits (w + 1) (omega arith) in
    subst (λ (l : List Bool). IfOk c.finish.result (λ (b : PlacedBits). b ≡ record { bits = l; offset = 0 })) all c.finish.ensures
