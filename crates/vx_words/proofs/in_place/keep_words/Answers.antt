use Rattle.std.proofs.Common.{◌≡◌, ◌+◌, ◌*◌, length, take, drop, map, refl, ap, subst, ◌∙◌, arith}
use Rattle.std.specs.List.{slice_get}
use Rattle.std.proofs.lemmas.List.{length-take-le, take_all}
use Rattle.std.proofs.lemmas.List.Sums.{count_by-le-length}
use Rattle.vx_bits.specs.BitBuffer.{true_count_of}
use Rattle.vx_filter.proofs.Moves.{same_further, word_gone}
use Rattle.vx_filter.proofs.Picks.{picked_at_the_set}
use Rattle.vx_mask.proofs.MarkedBits.{word_within_bits}
use Rattle.vx_mask.proofs.WordCounts.{count_of_word}
use Rattle.vx_mask.specs.Positions.{set_of}
use Rattle.vx_words.proofs.in_place.keep_words.Goals as goal

pub loop-i-init : goal.loop-i-init
loop-i-init g c = record { front = refl; after = refl; count = refl }

pub keep_picked-kept-requires-clause-behind : goal.keep_picked-kept-requires-clause-behind
keep_picked-kept-requires-clause-behind g c =
    let first = take (64 * c.loop-i.i) c.args.mask.now in
    omega (arith, c.loop-i.invariant.count, count_by-le-length (λ bit. bit) first, length-take-le (64 * c.loop-i.i) c.args.mask.now (omega (arith, c.len.ensures, c.div_ceil-i-end.ensures)))

pub keep_picked-kept-requires-clause-within : goal.keep_picked-kept-requires-clause-within
keep_picked-kept-requires-clause-within g c =
    word_within_bits c.args.mask.now c.loop-i.i _ (length c.loop-i.values) (omega (arith, c.len.ensures, c.div_ceil-i-end.ensures)) (c.requires ∙ omega arith) c.word-word.ensures

pub loop-i-preserved : goal.loop-i-preserved
loop-i-preserved g c =
    let v = c.loop-i.invariant in
    let i = c.loop-i.i in
    let m = c.args.mask.now in
    let old = c.args.values.now in
    let step = c.keep_picked-kept.ensures in
    let next : 64 * i + 64 ≡ 64 * (i + 1) = omega arith in
    record {
      front = word_gone m old c.loop-i.values _ c.loop-i.kept _ i _ (omega (arith, c.len.ensures, c.div_ceil-i-end.ensures)) c.requires (omega arith) c.word-word.ensures v.front v.after step.front;
      after = subst (λ n. drop n c.keep_picked-kept.new.values ≡ drop n old) next (step.after ∙ same_further old c.loop-i.values (64 * i) (64 * i + 64) (omega arith) v.after);
      count = omega (arith, step.count, v.count, count_of_word m i _ c.word-word.ensures);
    }

pub returns-clause-count : goal.returns-clause-count
returns-clause-count g c =
    c.loop-i.invariant.count ∙ ap true_count_of (take_all (64 * c.loop-i.i) c.args.mask.now (omega (arith, c.len.ensures, c.div_ceil-i-end.ensures)))

pub returns-clause-front : goal.returns-clause-front
returns-clause-front g c =
    let m = c.args.mask.now in
    let old = c.args.values.now in
    let all = take_all (64 * c.loop-i.i) m (omega (arith, c.len.ensures, c.div_ceil-i-end.ensures)) in
    picked_at_the_set m old _ c.requires (c.loop-i.invariant.front ∙ ap (λ l. map (slice_get old) (set_of l)) all)
