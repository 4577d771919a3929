-- All records are positions, or the number at hand is the first bad one, or one behind it is.
use Rattle.std.proofs.Common.{rules, ◌≡◌, ◌<◌, ◌/◌, sym, ap, ◌∙◌, true, false, length, get_or, None, arith}
use Rattle.std.specs.Prelude.{is_some}
use Rattle.vx_bits.specs.Words.{word_at}
use Rattle.vx_positions.specs.Stored.{shown_numbers}
use Rattle.vx_positions.proofs.NumberLists.{first_bad-end, first_bad-read, length-shown_numbers, none_bad-shown, shown_by_word, stops, goes_on}
use Rattle.vx_positions.proofs.shown.first_bad_shown_of_width.Goals as goal

pub returns-then-are_positions : goal.returns-then-are_positions
returns-then-are_positions g c = sym (none_bad-shown c.args.len c.args.ptype c.args.bits.now.bits c.args.records.now (sym c.are_positions.ensures ∙ c.if-are_positions.true))

pub returns-then-is_some : goal.returns-then-is_some
returns-then-is_some g c =
    let n = c.args.len in let bits = c.args.bits.now.bits in let records = c.args.records.now in let i = c.loop-i.i in
    let xs = shown_numbers c.args.ptype bits records in
    let below : i < length records = search rules in
    let read : c.number_by.result ≡ get_or xs i None =
    shown_by_word c.args.ptype bits records i c.loop-i.word c.number_by.result c.requires.long below (c.loop-i.invariant.word ∙ ap (λ b. word_at b (i / 64)) c.words-view.ensures) c.number_by.ensures in
    let some : is_some c.bad_number-bad.result ≡ true = search rules in
    stops n c.bad_number-bad.result _ some
    ∙ sym (first_bad-read n xs i c.number_by.result c.bad_number-bad.result (omega (arith, below, length-shown_numbers c.args.ptype bits records c.requires.long)) read c.bad_number-bad.ensures)
    ∙ sym c.loop-i.invariant.bad

pub loop-i-preserved : goal.loop-i-preserved
loop-i-preserved g c =
    let n = c.args.len in let bits = c.args.bits.now.bits in let records = c.args.records.now in let i = c.loop-i.i in
    let xs = shown_numbers c.args.ptype bits records in
    let below : i < length records = search rules in
    let read : c.number_by.result ≡ get_or xs i None =
    shown_by_word c.args.ptype bits records i c.loop-i.word c.number_by.result c.requires.long below (c.loop-i.invariant.word ∙ ap (λ b. word_at b (i / 64)) c.words-view.ensures) c.number_by.ensures in
    let none : is_some c.bad_number-bad.result ≡ false = search rules in
    record {
      bad = c.loop-i.invariant.bad
          ∙ first_bad-read n xs i c.number_by.result c.bad_number-bad.result (omega (arith, below, length-shown_numbers c.args.ptype bits records c.requires.long)) read c.bad_number-bad.ensures
          ∙ goes_on n c.bad_number-bad.result _ none;
      word = c.word_after-word.ensures;
    }

pub returns : goal.returns
returns g c =
    let bits = c.args.bits.now.bits in let records = c.args.records.now in
    sym (c.loop-i.invariant.bad ∙ first_bad-end c.args.len (shown_numbers c.args.ptype bits records) c.loop-i.i (omega (arith, c.loop-i-test.false, c.loop-i.auto.i-end, length-shown_numbers c.args.ptype bits records c.requires.long)))
