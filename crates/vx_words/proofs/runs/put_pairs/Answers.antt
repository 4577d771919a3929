use Rattle.std.proofs.Common.{◌≡◌, ◌+◌, ◌-◌, ◌^◌, ◌<◌, ◌∷◌, ◌++◌, length, map, take, bit_and, refl, sym, ap, ap₂, ◌∙◌, arith}
use Rattle.std.proofs.lemmas.List.{drop-set-lt}
use Rattle.std.proofs.lemmas.Nat.{and_le_l, ones_le_self}
use Rattle.vx_bits.specs.Words.{word_bits}
use Rattle.vx_bits.proofs.WordLists.{one_less}
use Rattle.vx_filter.proofs.Moves.{same_further}
use Rattle.vx_mask.specs.Positions.{positions}
use Rattle.vx_mask.proofs.LowestBit.{no_positions}
use Rattle.vx_words.specs.Runs.{pairs, run_of}
use Rattle.vx_words.proofs.RunMarks.{one_mark, run_put, two_marks}
use Rattle.vx_words.proofs.runs.put_pairs.Goals as goal

pub returns-then-ends-eq0-clause-told : goal.returns-then-ends-eq0-clause-told
returns-then-ends-eq0-clause-told c = λ end more.
    let left = c.pairs.left in
    let base = c.args.base in
    let front = take c.pairs.next c.pairs.dst in
    let some : 0 < left = omega (arith, c.pairs-test.true) in
    let none : bit_and left (left - 1) ≡ 0 = omega (arith, c.if-ends-eq0.true) in
    ap (λ p. front ++ map run_of (pairs end ((base + p) ∷ more))) c.from.ensures
    ∙ ap (λ l. front ++ map run_of (pairs end (l ++ more))) (sym (one_mark base left some (omega arith) none))
    ∙ c.pairs.invariant.told end more

pub returns-then-ends-eq0-clause-count : goal.returns-then-ends-eq0-clause-count
returns-then-ends-eq0-clause-count c =
    let left = c.pairs.left in
    let some : 0 < left = omega (arith, c.pairs-test.true) in
    omega (arith, one_less 64 left some (omega arith), ones_le_self (bit_and left (left - 1)), c.if-ends-eq0.true, c.pairs.invariant.count)

pub bounds-dst-next : goal.bounds-dst-next
bounds-dst-next c =
    let left = c.pairs.left in
    let ends = bit_and left (left - 1) in
    let some : 0 < left = omega (arith, c.pairs-test.true) in
    let more : 0 < ends = omega (arith, c.if-ends-eq0.false) in
    let small : ends < 2 ^ 64 = omega (arith, and_le_l left (left - 1)) in
    omega (arith, one_less 64 left some (omega arith), one_less 64 ends more small, c.pairs.invariant.count, c.requires.room)

pub pairs-smaller : goal.pairs-smaller
pairs-smaller c =
    let left = c.pairs.left in
    let ends = bit_and left (left - 1) in
    let some : 0 < left = omega (arith, c.pairs-test.true) in
    let more : 0 < ends = omega (arith, c.if-ends-eq0.false) in
    let small : ends < 2 ^ 64 = omega (arith, and_le_l left (left - 1)) in
    omega (arith, one_less 64 left some (omega arith), one_less 64 ends more small)

pub pairs-preserved : goal.pairs-preserved
pairs-preserved c =
    let v = c.pairs.invariant in
    let left = c.pairs.left in
    let ends = bit_and left (left - 1) in
    let base = c.args.base in
    let next = c.pairs.next in
    let dst = c.pairs.dst in
    let some : 0 < left = omega (arith, c.pairs-test.true) in
    let more : 0 < ends = omega (arith, c.if-ends-eq0.false) in
    let fits : left < 2 ^ 64 = omega arith in
    let small : ends < 2 ^ 64 = omega (arith, and_le_l left (left - 1)) in
    let less = one_less 64 left some fits in
    let fewer = one_less 64 ends more small in
    let room : next < length dst = omega (arith, less, fewer, v.count, c.requires.room) in
    let places = positions base (word_bits (bit_and ends (ends - 1)) 64) in
    record {
      told = λ end others.
          run_put dst next (base + c.from.result) (base + c.from-in-pairs.result) end (places ++ others) room
          ∙ ap (λ l. take next dst ++ map run_of (pairs end (l ++ others)))
          (ap₂ (λ p q. (base + p) ∷ (base + q) ∷ places) c.from.ensures c.from-in-pairs.ensures
          ∙ sym (two_marks base left ends some fits more small refl))
          ∙ v.told end others;
      count = omega (arith, less, fewer, v.count);
      rest = drop-set-lt (next + 1) dst next _ (omega arith) ∙ same_further c.args.dst.now dst next (next + 1) (omega arith) v.rest;
    }

pub returns-clause-told : goal.returns-clause-told
returns-clause-told c = λ end more.
    let base = c.args.base in
    let none : c.pairs.left ≡ 0 = omega (arith, c.pairs-test.false) in
    ap (λ l. take c.pairs.next c.pairs.dst ++ map run_of (pairs end (l ++ more))) (sym (no_positions base) ∙ ap (λ x. positions base (word_bits x 64)) (sym none))
    ∙ c.pairs.invariant.told end more
