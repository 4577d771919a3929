use Rattle.std.proofs.Common.{◌≡◌, ℕ, ◌≤◌, subst, ◌+◌, ◌*◌, ◌<◌, ◌++◌, length, take, drop, sym, ap, ◌∙◌, take_all, arith}
use Rattle.std.specs.Int.{w64}
use Rattle.std.proofs.lemmas.List.{append_assoc, length-set, length-take-le, take_more_set}
use Rattle.std.proofs.lemmas.Nat.Bits.{bit_at-trailing_zeros}
use Rattle.vx_filter.specs.Compact.{bits_of_words}
use Rattle.vx_mask.specs.Positions.{positions}
use Rattle.vx_mask.proofs.LowestBit.{position_pushed}
use Rattle.vx_chunked.proofs.Marks.{all_of_front, more_words, next_word, no_words}
use Rattle.vx_chunked.proofs.bits.put_words.Goals as goal

pub bit-init : goal.bit-init
bit-init c =
    let words = c.args.words.now in
    let from = c.args.from in
    let at : from + 64 * 0 ≡ from = omega arith in
    record {
      within = omega arith;
      near = omega arith;
      few = omega arith;
      room = c.requires.room;
      items = no_words from (positions (from + 64 * 0) (bits_of_words words)) ∙ ap (λ n. positions n (bits_of_words words)) at;
    }

pub bounds-words-used : goal.bounds-words-used
bounds-words-used c =
    let v = c.bit.invariant in
    more_words c.args.from c.bit.base c.bit.left c.bit.used c.args.words.now (take c.bit.filled c.bit.places) (omega (arith, c.if-left-eq0.true)) _ v.items (omega (arith, length-take-le c.bit.filled c.bit.places v.few, v.room, c.bit-test.true))

pub bit-preserved-then-left-eq0 : goal.bit-preserved-then-left-eq0
bit-preserved-then-left-eq0 c =
    let v = c.bit.invariant in
    let words = c.args.words.now in
    let used = c.bit.used in
    let here : used < length words = more_words c.args.from c.bit.base c.bit.left used words (take c.bit.filled c.bit.places) (omega (arith, c.if-left-eq0.true)) _ v.items (omega (arith, length-take-le c.bit.filled c.bit.places v.few, v.room, c.bit-test.true)) in
    record {
      within = omega (arith, here);
      near = omega arith;
      few = v.few;
      room = v.room;
      items = next_word c.args.from c.bit.base c.bit.left used words (take c.bit.filled c.bit.places) (omega (arith, c.if-left-eq0.true)) here ∙ v.items;
    }

pub bit-smaller-then-left-eq0 : goal.bit-smaller-then-left-eq0
bit-smaller-then-left-eq0 c =
    let v = c.bit.invariant in
    omega (arith, more_words c.args.from c.bit.base c.bit.left c.bit.used c.args.words.now (take c.bit.filled c.bit.places) (omega (arith, c.if-left-eq0.true)) _ v.items (omega (arith, length-take-le c.bit.filled c.bit.places v.few, v.room, c.bit-test.true)))

pub overflow_add-places : goal.overflow_add-places
overflow_add-places c =
    let bit = (bit_at-trailing_zeros w64 c.bit.left (omega (arith, c.if-left-eq0.false)) (omega arith)).0 in
    let v = c.bit.invariant in
    omega (arith, bit, v.near, v.within, c.requires.counted)

pub bit-preserved : goal.bit-preserved
bit-preserved c =
    let v = c.bit.invariant in
    let left = c.bit.left in
    let filled = c.bit.filled in
    let some : 0 < left = omega (arith, c.if-left-eq0.false) in
    let rest = positions (c.args.from + 64 * c.bit.used) (bits_of_words (drop c.bit.used c.args.words.now)) in
    record {
      within = v.within;
      near = v.near;
      few = subst (λ (n : ℕ). filled + 1 ≤ n) (sym (length-set c.bit.places filled _)) (omega (arith, c.bit-test.true));
      room = length-set c.bit.places filled _ ∙ v.room;
      items = ap (λ l. l ++ rest) (position_pushed c.bit.base (take filled c.bit.places) _ left _ some (omega arith) (omega arith) (take_more_set c.bit.places filled _ (omega (arith, c.bit-test.true)))) ∙ v.items;
    }

pub returns : goal.returns
returns c =
    let v = c.bit.invariant in
    let places = c.bit.places in
    let whole = take_all c.bit.filled places (omega (arith, c.bit-test.false)) in
    sym whole ∙ all_of_front (take c.bit.filled places) _ _ (sym (append_assoc (take c.bit.filled places) _ _) ∙ v.items) (omega (arith, v.room, ap length whole))
