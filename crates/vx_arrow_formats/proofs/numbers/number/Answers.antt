-- A text that is no number, and one that is.
use Rattle.std.proofs.Common.{◌≡◌, ◌+◌, false, get_or, ap, sym, ◌∙◌, arith}
use Rattle.std.specs.List.{list_all}
use Rattle.std.proofs.lemmas.Bool.{eqb-true, eqb-false}
use Rattle.std.proofs.lemmas.List.{take_all}
use Rattle.std.proofs.lemmas.List.Folds.{list_all_at}
use Rattle.vx_arrow_formats.specs.Numbers.{is_digit, value_of}
use Rattle.vx_arrow_formats.proofs.Digits.{number_empty, number_other, number_large, number_whole, value_front, value_more, digit_is, digit_low, digit_high, digits_more}
use Rattle.vx_arrow_formats.proofs.numbers.number.Goals as goal
use Rattle.vx_arrow_formats.proofs.numbers.number.Goals.{then-byte-lt48-via-then-byte-lt48, then-byte-lt48-via-else-byte-lt48+then-byte-gt57}

pub returns-then-is_empty-clause-value : goal.returns-then-is_empty-clause-value
returns-then-is_empty-clause-value c = number_empty c.args.text.now (eqb-true _ _ (sym c.is_empty.ensures ∙ c.if-is_empty.true))

pub returns-then-byte-lt48-clause-value : goal.returns-then-byte-lt48-clause-value
returns-then-byte-lt48-clause-value c =
    let text = c.args.text.now in
    let i = c.loop-byte.byte-index in
    let here = get_or text i 0 in
    let other : is_digit here ≡ false =
    elim c.then-byte-lt48.branch [
      | then-byte-lt48-via-then-byte-lt48 w ↦ digit_low here w.if-byte-lt48.true
      | then-byte-lt48-via-else-byte-lt48+then-byte-gt57 w ↦ digit_high here w.if-byte-gt57.true
    ] in
    number_other text (list_all_at is_digit text i 0 c.loop-byte-test.true other)

pub returns-then-value-clause-value : goal.returns-then-value-clause-value
returns-then-value-clause-value c =
    let text = c.args.text.now in
    let i = c.loop-byte.byte-index in
    number_large text (omega (arith, value_front text (i + 1), value_more text i c.loop-byte-test.true, c.loop-byte.invariant.value, c.if-value.true))

pub returns-clause-value : goal.returns-clause-value
returns-clause-value c =
    let text = c.args.text.now in
    let i = c.loop-byte.byte-index in
    let all = take_all i text (omega arith) in
    number_whole text c.loop-byte.value (omega (arith, eqb-false _ _ (sym c.is_empty.ensures ∙ c.if-is_empty.false))) (sym (ap (list_all is_digit) all) ∙ c.loop-byte.invariant.digits) (c.loop-byte.invariant.value ∙ ap value_of all) c.loop-byte.invariant.small

pub loop-byte-preserved : goal.loop-byte-preserved
loop-byte-preserved c =
    let text = c.args.text.now in
    let i = c.loop-byte.byte-index in
    record {
      digits = digits_more text i c.loop-byte-test.true c.loop-byte.invariant.digits (digit_is (get_or text i 0) (omega arith) (omega arith));
      value = omega (arith, value_more text i c.loop-byte-test.true, c.loop-byte.invariant.value);
      small = omega (arith, c.if-value.false);
    }
