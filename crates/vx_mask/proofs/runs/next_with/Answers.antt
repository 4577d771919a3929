use Rattle.std.proofs.Common.{◌+◌, arith}
use Rattle.vx_mask.proofs.WordPlaces.{keeps_first, keeps_all, found_here, passed_here}
use Rattle.vx_bits.proofs.WordLists.{is_word}
use Rattle.vx_mask.proofs.runs.next_with.Goals as goal

pub loop-w-init : goal.loop-w-init
loop-w-init c = record { keeps = keeps_first c.args.from; passed = λ k p q. absurd (omega arith) }

pub returns-then-place-len-clause-from : goal.returns-then-place-len-clause-from
returns-then-place-len-clause-from c =
    (found_here _ _ _ _ _ _ _ (is_word c.loop-w.w c.word.ensures c.words-words.ensures) c.wanted.ensures (omega arith) (omega arith) c.if-found-ne0.true c.loop-w.invariant.keeps c.loop-w.invariant.passed).after

pub returns-then-place-len-clause-passed : goal.returns-then-place-len-clause-passed
returns-then-place-len-clause-passed c =
    (found_here _ _ _ _ _ _ _ (is_word c.loop-w.w c.word.ensures c.words-words.ensures) c.wanted.ensures (omega arith) (omega arith) c.if-found-ne0.true c.loop-w.invariant.keeps c.loop-w.invariant.passed).passed

pub returns-then-place-len-clause-found : goal.returns-then-place-len-clause-found
returns-then-place-len-clause-found c = λ p.
    (found_here _ _ _ _ _ _ _ (is_word c.loop-w.w c.word.ensures c.words-words.ensures) c.wanted.ensures (omega arith) (omega arith) c.if-found-ne0.true c.loop-w.invariant.keeps c.loop-w.invariant.passed).set

pub returns-else-place-len-clause-passed : goal.returns-else-place-len-clause-passed
returns-else-place-len-clause-passed c = λ k p q.
    let found = found_here _ _ _ _ _ _ _ (is_word c.loop-w.w c.word.ensures c.words-words.ensures) c.wanted.ensures (omega arith) (omega arith) c.if-found-ne0.true c.loop-w.invariant.keeps c.loop-w.invariant.passed in
    found.passed k p (omega (arith, c.if-place-len.false))

pub loop-w-preserved : goal.loop-w-preserved
loop-w-preserved c = record {
  keeps = keeps_all c.args.from (c.loop-w.w + 1) (omega (arith, c.loop-w.auto.w));
  passed = passed_here _ _ _ _ _ _ _ (is_word c.loop-w.w c.word.ensures c.words-words.ensures) c.wanted.ensures (omega arith) (omega (arith, c.if-found-ne0.false)) c.loop-w.invariant.keeps c.loop-w.invariant.passed;
}
