use Rattle.std.proofs.Common.{◌≡◌, ◌+◌, ◌*◌, ◌++◌, false, length, get_or, replicate, refl, sym, ap, ◌∙◌, arith}
use Rattle.std.proofs.lemmas.List.{length-replicate, get_or-replicate}
use Rattle.std.proofs.lemmas.List.Sums.{count_by-le-length}
use Rattle.std.proofs.lemmas.Result.{IfOk-weaker}
use Rattle.vx_bits.specs.BitBuffer.{PlacedBits}
use Rattle.vx_mask.specs.Positions.{set_of}
use Rattle.vx_mask.proofs.BlockCounts.{count_fits}
use Rattle.vx_mask.proofs.WordCounts.{count_of_word, counts_rise}
use Rattle.vx_mask.proofs.MarkedBits.{no_mark, word_within_bits, one_word, all_words}
use Rattle.vx_bits.proofs.WordLists.{is_word}
use Rattle.vx_mask.proofs.intersect.bits_by_rank.Goals as goal

pub loop-w-init : goal.loop-w-init
loop-w-init c =
    let bits = c.args.bits.now.bits in
    let clear = c.in_ok-append_n.ensures.ok ∙ ap (λ l. l ++ replicate c.len-len.result false) c.in_ok-kept.ensures ∙ ap (λ n. replicate n false) c.len-len.ensures in
    record {
      ranks = refl;
      set = no_mark (length bits) _ _ clear;
      long = ap length clear ∙ length-replicate (length bits) false;
      clear = λ k p q. ap (λ l. get_or l k false) clear ∙ get_or-replicate (length bits) k false false q;
    }

pub mark_word-requires-clause-ranks : goal.mark_word-requires-clause-ranks
mark_word-requires-clause-ranks c =
    omega (arith, c.loop-w.invariant.ranks, count_fits c.args.bits.now.bits (64 * c.loop-w.w))

pub mark_word-requires-clause-enough : goal.mark_word-requires-clause-enough
mark_word-requires-clause-enough c =
    let bits = c.args.bits.now.bits in
    omega (arith, c.loop-w.invariant.ranks, count_of_word bits c.loop-w.w c.word-word.result (is_word c.loop-w.w c.word-word.ensures c.words-words.ensures), counts_rise bits (64 * (c.loop-w.w + 1)), c.requires)

pub mark_word-requires-clause-clear : goal.mark_word-requires-clause-clear
mark_word-requires-clause-clear c = λ k p q. c.loop-w.invariant.clear k p (omega (arith, c.loop-w.invariant.long, q))

pub mark_word-requires-clause-within : goal.mark_word-requires-clause-within
mark_word-requires-clause-within c =
    let bits = c.args.bits.now.bits in
    word_within_bits bits c.loop-w.w c.word-word.result _ (omega arith) (sym c.loop-w.invariant.long) (is_word c.loop-w.w c.word-word.ensures c.words-words.ensures)

pub overflow_add-from : goal.overflow_add-from
overflow_add-from c =
    let bits = c.args.bits.now.bits in
    omega (arith, c.loop-w.invariant.ranks, count_of_word bits c.loop-w.w c.word-word.result (is_word c.loop-w.w c.word-word.ensures c.words-words.ensures), counts_rise bits (64 * (c.loop-w.w + 1)), count_by-le-length (λ b. b) bits, c.len-len.ensures, c.len-len.type_inv)

pub loop-w-preserved : goal.loop-w-preserved
loop-w-preserved c =
    let bits = c.args.bits.now.bits in
    let v = c.loop-w.invariant in
    let m = c.mark_word.ensures in
    let w = c.loop-w.w in
    let next : 64 * w + 64 ≡ 64 * (w + 1) = omega arith in
    record {
      ranks = omega (arith, v.ranks, count_of_word bits w c.word-word.result (is_word c.loop-w.w c.word-word.ensures c.words-words.ensures));
      set = one_word bits c.args.by.now.bits c.loop-w.kept c.mark_word.new.kept w c.word-word.result c.loop-w.from _ (omega arith) (is_word c.loop-w.w c.word-word.ensures c.words-words.ensures) (omega arith) v.set m.set;
      long = m.len ∙ v.long;
      clear = λ k p q. m.clear k (omega arith) (omega (arith, v.long, q));
    }

pub returns-clause-set : goal.returns-clause-set
returns-clause-set c =
    let bits = c.args.bits.now.bits in
    let set = all_words bits c.args.by.now.bits c.loop-w.kept c.loop-w.w c.loop-w.from _ (omega arith) c.loop-w.invariant.set in
    IfOk-weaker c.finish.result _ _ (λ b h. ap (λ (p : PlacedBits). set_of p.bits) h ∙ set) c.finish.ensures

pub returns-clause-len : goal.returns-clause-len
returns-clause-len c = IfOk-weaker c.finish.result _ _ (λ b h. ap (λ (p : PlacedBits). length p.bits) h ∙ c.loop-w.invariant.long) c.finish.ensures
