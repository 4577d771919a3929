use Rattle.std.proofs.Common.{◌≡◌, ◌+◌, ◌*◌, ◌≤◌, ◌++◌, Bool, List, length, take, drop, subst, refl, sym, ap, ap₂, ◌∙◌, arith}
use Rattle.std.specs.List.{items_where_true}
use Rattle.std.proofs.lemmas.List.{take_all}
use Rattle.vx_bits.specs.BitBuffer.{true_count_of}
use Rattle.vx_bits.specs.Words.{word_count}
use Rattle.vx_bitfilter.proofs.FilteredWords.{word_kept}
use Rattle.vx_bitfilter.proofs.PackedBits.{picked_bits}
use Rattle.vx_bitfilter.proofs.PackedLaws.{count_picked}
use Rattle.vx_filter.proofs.Moves.{same_further}
use Rattle.vx_mask.proofs.WordCounts.{count_of_word, counts_rise}
use Rattle.vx_words.specs.Bits.{IsPacked, words_of}
use Rattle.vx_words.proofs.BitWords.{none_packed, pext_is}
use Rattle.vx_words.proofs.filter_bits.put_words.Goals as goal

pub loop-i-init : goal.loop-i-init
loop-i-init c =
    let new = c.new-kept.ensures in
    let none : true_count_of (take (64 * 0) c.args.mask.now) ≡ 0 = refl in
    record {
      packed = none_packed c.args.dst.now _ _ _ new.full new.next new.held;
      open_word = omega (arith, new.held);
      count = omega (arith, new.full, new.held, none);
      rest = refl;
    }

pub append-kept-requires-clause-room : goal.append-kept-requires-clause-room
append-kept-requires-clause-room c =
    let m = c.args.mask.now in
    let i = c.loop-i.i in
    omega (arith, c.loop-i.invariant.count, c.picked-found.ensures.count, count_of_word m i _ c.word-picks.ensures, counts_rise m (64 * (i + 1)), c.requires.room)

pub loop-i-preserved : goal.loop-i-preserved
loop-i-preserved c =
    let v = c.loop-i.invariant in
    let i = c.loop-i.i in
    let m = c.args.mask.now in
    let s = c.args.src.now in
    let word = c.word-word.result in
    let picks = c.word-picks.result in
    let more = picked_bits word picks in
    let before = items_where_true (take (64 * i) m) s in
    let step = c.append-kept.ensures in
    let within : 64 * i ≤ length m = omega (arith, c.len.ensures, c.div_ceil-i-end.ensures) in
    let packed = step.packed before more v.packed (c.picked-found.ensures.bits ∙ pext_is word picks) ((c.picked-found.ensures.count ∙ sym (count_picked word picks (omega arith)))) in
    let all = word_kept m s before (before ++ more) i c.requires.same within refl (ap (λ l. before ++ l) (ap₂ picked_bits c.word-word.ensures c.word-picks.ensures)) in
    record {
      packed = subst (λ (l : List Bool). IsPacked l c.append-kept.new.dst c.append-kept.result.full c.append-kept.result.next c.append-kept.result.held) all packed;
      open_word = step.open;
      count = omega (arith, step.count, v.count, c.picked-found.ensures.count, count_of_word m i _ c.word-picks.ensures);
      rest = step.rest ∙ same_further c.args.dst.now c.loop-i.dst c.loop-i.kept.full c.append-kept.result.full (omega (arith, step.count, step.open, v.open_word)) v.rest;
    }

pub returns : goal.returns
returns c =
    let v = c.loop-i.invariant in
    let i = c.loop-i.i in
    let m = c.args.mask.now in
    let s = c.args.src.now in
    let all : take (64 * i) m ≡ m = take_all (64 * i) m (omega (arith, c.len.ensures, c.div_ceil-i-end.ensures)) in
    let kept = items_where_true m s in
    let packed = subst (λ (l : List Bool). IsPacked (items_where_true l s) c.loop-i.dst c.loop-i.kept.full c.loop-i.kept.next c.loop-i.kept.held) all v.packed in
    let count : length kept ≡ true_count_of m = packed.count ∙ v.count ∙ ap true_count_of all in
    let further : c.loop-i.kept.full ≤ word_count (length kept) = omega (arith, packed.count) in
    record {
      bits =
          c.close.ensures kept packed
          ∙ ap (λ l. words_of kept ++ l) (same_further c.args.dst.now c.loop-i.dst c.loop-i.kept.full (word_count (length kept)) further v.rest)
          ∙ ap (λ n. words_of kept ++ drop (word_count n) c.args.dst.now) count;
      count = v.count ∙ ap true_count_of all;
    }
