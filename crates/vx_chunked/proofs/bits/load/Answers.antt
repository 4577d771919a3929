use Rattle.std.proofs.Common.{map, ◌∷◌, [], ◌++◌, length, take, ap, sym, ◌∙◌, arith}
use Rattle.std.proofs.lemmas.List.{length-take-le, take_more_set}
use Rattle.std.proofs.lemmas.List.FromFn.{map-range_with_len_more}
use Rattle.std.proofs.lemmas.List.Sums.{count_by-le-length}
use Rattle.std.specs.List.{range_with_len}
use Rattle.vx_bits.specs.Words.{word_at, word_bits}
use Rattle.vx_bits.proofs.WordBits.{length-word_bits}
use Rattle.vx_filter.specs.Compact.{bits_of_words}
use Rattle.vx_mask.specs.Positions.{positions}
use Rattle.vx_mask.proofs.PositionLists.{length-positions}
use Rattle.vx_chunked.proofs.Marks.{ones_more, ones_of_word}
use Rattle.vx_chunked.proofs.bits.load.Goals as goal
use Rattle.vx_filter.proofs.Copies.{length-bits_of_words}

pub overflow_add-count : goal.overflow_add-count
overflow_add-count c =
    let words = c.loop-w.words in
    let w = c.loop-w.w in
    let front = bits_of_words (take w words) in
    omega (arith, c.loop-w.invariant.count, length-positions 0 front, count_by-le-length (λ b. b) front, length-bits_of_words (take w words), length-take-le w words (omega arith), ones_of_word 0 c.word-word.result (omega arith), length-positions 0 (word_bits c.word-word.result 64), count_by-le-length (λ b. b) (word_bits c.word-word.result 64), length-word_bits c.word-word.result 64)

pub loop-w-preserved : goal.loop-w-preserved
loop-w-preserved c =
    let words = c.loop-w.words in
    let w = c.loop-w.w in
    let more = take_more_set words w c.word-word.result (omega arith) in
    record {
      words = more ∙ ap (λ l. l ++ c.word-word.result ∷ []) c.loop-w.invariant.words
          ∙ ap (λ x. map (word_at c.args.bits.now.bits) (range_with_len 0 w) ++ x ∷ []) (c.word-word.ensures ∙ ap (λ b. word_at b w) c.words-view.ensures) ∙ sym (map-range_with_len_more (word_at c.args.bits.now.bits) 0 w w (omega arith));
      count = omega (arith, c.loop-w.invariant.count, ap (λ l. length (positions 0 (bits_of_words l))) more, ones_more (take w words) c.word-word.result 0 (omega arith));
    }
