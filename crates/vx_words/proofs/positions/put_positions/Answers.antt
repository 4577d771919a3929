use Rattle.std.proofs.Common.{◌≡◌, ◌++◌, ◌*◌, get_or, drop, sym, ap, ◌∙◌, arith}
use Rattle.std.proofs.lemmas.List.{take_all}
use Rattle.vx_bits.specs.Words.{word_bits}
use Rattle.vx_filter.specs.Compact.{bits_of_words}
use Rattle.vx_filter.proofs.Moves.{same_further}
use Rattle.vx_mask.specs.Positions.{positions, set_of}
use Rattle.vx_words.specs.Masks.{count_of}
use Rattle.vx_words.proofs.FilterFaults.{front_and_rest}
use Rattle.vx_words.proofs.MaskWords.{count_more, room_for_word}
use Rattle.vx_words.proofs.positions.put_positions.Goals as goal
use Rattle.vx_filter.proofs.Copies.{words_more}

pub put_word-kept-requires-clause-room : goal.put_word-kept-requires-clause-room
put_word-kept-requires-clause-room c =
    let v = c.loop-w.invariant in
    omega (arith, v.count, room_for_word c.args.words.now c.loop-w.w (omega arith) (omega arith), c.requires.room)

pub loop-w-preserved : goal.loop-w-preserved
loop-w-preserved c =
    let v = c.loop-w.invariant in
    let step = c.put_word-kept.ensures in
    let words = c.args.words.now in
    let w = c.loop-w.w in
    record {
      front = step.front ∙ ap (λ l. l ++ positions (64 * w) (word_bits (get_or words w 0) 64)) v.front ∙ sym (words_more words w (omega arith));
      rest = step.rest ∙ same_further c.args.dst.now c.loop-w.dst c.loop-w.kept _ (omega (arith, step.count)) v.rest;
      count = omega (arith, step.count, v.count, count_more words w (omega arith) (omega arith));
    }

pub returns : goal.returns
returns c =
    let v = c.loop-w.invariant in
    let all = take_all c.loop-w.w c.args.words.now (omega arith) in
    let count : c.loop-w.kept ≡ count_of c.args.words.now = v.count ∙ ap count_of all in
    front_and_rest c.loop-w.kept c.loop-w.dst _ _ (v.front ∙ ap (λ l. set_of (bits_of_words l)) all) (v.rest ∙ ap (λ n. drop n c.args.dst.now) count)

pub overflow_mul-w : goal.overflow_mul-w
overflow_mul-w c = omega (arith, c.requires.counted)

pub put_word-kept-requires-clause-counted : goal.put_word-kept-requires-clause-counted
put_word-kept-requires-clause-counted c = omega (arith, c.requires.counted)
