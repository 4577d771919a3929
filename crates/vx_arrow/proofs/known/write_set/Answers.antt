-- The positions of one word more.
use Rattle.std.proofs.Common.{◌≡◌, ◌+◌, ◌*◌, ◌≤◌, ◌++◌, length, take, drop, sym, ap, ◌∙◌, refl, arith, length-append}
use Rattle.std.proofs.lemmas.List.{take_all}
use Rattle.vx_bits.specs.BitBuffer.{true_count_of}
use Rattle.vx_bits.specs.Words.{word_at, word_bits}
use Rattle.vx_bits.proofs.WordBits.{true_count_of-word_bits}
use Rattle.vx_mask.specs.Positions.{positions, set_of}
use Rattle.vx_mask.proofs.PositionLists.{length-positions}
use Rattle.vx_mask.proofs.WordPositions.{word_fits, word_pushed}
use Rattle.vx_arrow.proofs.Writes.{front_and_rest, same_further}
use Rattle.vx_arrow.proofs.known.write_set.Goals as goal

pub put_word-kept-requires-clause-room : goal.put_word-kept-requires-clause-room
put_word-kept-requires-clause-room c =
    let bits = c.args.bits.now.bits in
    let e : c.word.result ≡ word_at bits c.loop-w.w = c.word.ensures ∙ ap (λ l. word_at l c.loop-w.w) c.words-words.ensures in
    omega (arith, word_fits bits (set_of (take (64 * c.loop-w.w) bits)) c.loop-w.w c.word.result e refl, c.loop-w.invariant.count, c.requires)

pub loop-w-preserved : goal.loop-w-preserved
loop-w-preserved c =
    let v = c.loop-w.invariant in
    let step = c.put_word-kept.ensures in
    let bits = c.args.bits.now.bits in
    let w = c.loop-w.w in
    let word = c.word.result in
    let before = set_of (take (64 * w) bits) in
    let own = positions (64 * w) (word_bits word 64) in
    let e : word ≡ word_at bits w = c.word.ensures ∙ ap (λ l. word_at l w) c.words-words.ensures in
    let low : 64 * w ≤ length bits = omega (arith, c.len.ensures, c.div_ceil-w-end.ensures) in
    let all : before ++ own ≡ set_of (take (64 * (w + 1)) bits) = word_pushed bits before (before ++ own) w word low e refl refl in
    record {
      front = step.front ∙ ap (λ l. l ++ own) v.front ∙ all;
      rest = step.rest ∙ same_further c.args.places.now c.loop-w.places c.loop-w.kept _ (omega (arith, step.count)) v.rest;
      count = omega (arith, step.count, v.count, ap length (sym all), length-append before own, length-positions (64 * w) (word_bits word 64), true_count_of-word_bits word 64 (omega arith));
    }

pub returns : goal.returns
returns c =
    let v = c.loop-w.invariant in
    let bits = c.args.bits.now.bits in
    let all : take (64 * c.loop-w.w) bits ≡ bits = take_all (64 * c.loop-w.w) bits (omega (arith, c.len.ensures, c.div_ceil-w-end.ensures)) in
    let count : c.loop-w.kept ≡ true_count_of bits = v.count ∙ ap (λ l. length (set_of l)) all ∙ length-positions 0 bits in
    front_and_rest c.loop-w.kept c.loop-w.places c.args.places.now _ (v.front ∙ ap set_of all) v.rest
    ∙ ap (λ n. set_of bits ++ drop n c.args.places.now) count
