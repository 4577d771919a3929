use Rattle.std.proofs.Common.{◌≡◌, ◌+◌, ◌-◌, ◌*◌, ◌/◌, refl, sym, ap, ◌∙◌, arith}
use Rattle.std.specs.List.{range_with_len}
use Rattle.vx_bits.specs.WordReader.{then_told}
use Rattle.vx_bits.specs.Words.{word_at}
use Rattle.vx_mask.proofs.WordCounts.{word_within, count_of_word, rank_in_word, rank_passed, told_start, told_next}
use Rattle.vx_mask.proofs.ranks.rank_from.Goals as goal

pub loop-w-init : goal.loop-w-init
loop-w-init g c = record {
  counted = omega (arith, c.requires.counted, c.requires.behind);
  same = refl;
  reads = told_start (g.R.WordReader.reads c.args.bits.now) c.args.first;
  cost = omega arith;
}

pub word-word-requires-clause-left : goal.word-word-requires-clause-left
word-word-requires-clause-left g c =
    let own = word_within (g.R.WordReader.bits c.args.bits.now) c.loop-w.w (c.args.first + g.R.WordReader.spare c.args.bits.now) c.args.k c.loop-w.left c.loop-w.invariant.counted c.requires.spare in
    omega (arith, c.loop-w.invariant.cost, c.loop-w.auto.w)

pub returns-then-left-count-clause-value : goal.returns-then-left-count-clause-value
returns-then-left-count-clause-value g c =
    let word = c.word-word.ensures.value ∙ ap (λ b. word_at b c.loop-w.w) c.loop-w.invariant.same in
    let place = c.place_with.ensures in
    sym (rank_in_word _ c.args.k c.loop-w.w c.loop-w.left c.place_with.result _ word c.loop-w.invariant.counted place.within place.before place.next c.requires.within).0

pub returns-then-left-count-clause-inside : goal.returns-then-left-count-clause-inside
returns-then-left-count-clause-inside g c =
    let word = c.word-word.ensures.value ∙ ap (λ b. word_at b c.loop-w.w) c.loop-w.invariant.same in
    let place = c.place_with.ensures in
    (rank_in_word _ c.args.k c.loop-w.w c.loop-w.left c.place_with.result _ word c.loop-w.invariant.counted place.within place.before place.next c.requires.within).1

pub returns-then-left-count-clause-passed : goal.returns-then-left-count-clause-passed
returns-then-left-count-clause-passed g c =
    let word = c.word-word.ensures.value ∙ ap (λ b. word_at b c.loop-w.w) c.loop-w.invariant.same in
    let place = c.place_with.ensures in
    rank_passed _ c.args.k c.loop-w.w c.loop-w.left c.place_with.result _ word c.loop-w.invariant.counted place.within place.before

pub returns-then-left-count-clause-from : goal.returns-then-left-count-clause-from
returns-then-left-count-clause-from g c = omega (arith, c.place_with.ensures.within, c.loop-w.auto.w)

pub returns-then-left-count-clause-reads : goal.returns-then-left-count-clause-reads
returns-then-left-count-clause-reads g c =
    let start = g.R.WordReader.reads c.args.bits.now in
    let w = c.loop-w.w in
    let place = c.place_with.ensures.within in
    let at : w ≡ (64 * w + c.place_with.result) / 64 = omega arith in
    told_next start _ _ c.args.first w c.loop-w.auto.w c.loop-w.invariant.reads c.word-word.ensures.told
    ∙ ap (λ n. then_told start (range_with_len c.args.first (n + 1 - c.args.first))) at

pub returns-then-left-count-clause-cost : goal.returns-then-left-count-clause-cost
returns-then-left-count-clause-cost g c = omega (arith, c.loop-w.invariant.cost, c.word-word.ensures.cost, c.place_with.ensures.within, c.loop-w.auto.w)

pub loop-w-preserved : goal.loop-w-preserved
loop-w-preserved g c =
    let bits = g.R.WordReader.bits c.args.bits.now in
    let word = c.word-word.ensures.value ∙ ap (λ b. word_at b c.loop-w.w) c.loop-w.invariant.same in
    record {
      counted = omega (arith, count_of_word bits c.loop-w.w c.word-word.result word, c.loop-w.invariant.counted, c.if-left-count.false);
      same = c.word-word.ensures.same ∙ c.loop-w.invariant.same;
      reads = told_next _ _ _ _ _ c.loop-w.auto.w c.loop-w.invariant.reads c.word-word.ensures.told;
      cost = omega (arith, c.word-word.ensures.cost, c.loop-w.invariant.cost, c.loop-w.auto.w);
    }
