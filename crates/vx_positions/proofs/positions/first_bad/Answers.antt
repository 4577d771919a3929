-- The number at hand is the first bad one, or one behind it is.
use Rattle.std.proofs.Common.{rules, ◌≡◌, sym, ◌∙◌, true, false}
use Rattle.std.specs.Prelude.{is_some}
use Rattle.vx_positions.proofs.NumberLists.{first_bad-read, stops, goes_on}
use Rattle.vx_positions.proofs.positions.first_bad.Goals as goal

pub returns-then-is_some : goal.returns-then-is_some
returns-then-is_some g c =
    let n = c.args.len in let xs = g.N.Numbers.numbers c.args.numbers.now in let i = c.loop-i.i in
    let some : is_some c.bad_number-bad.result ≡ true = search rules in
    stops n c.bad_number-bad.result _ some
    ∙ sym (first_bad-read n xs i c.number.result c.bad_number-bad.result (search rules) c.number.ensures.value c.bad_number-bad.ensures)
    ∙ sym c.loop-i.invariant

pub loop-i-preserved : goal.loop-i-preserved
loop-i-preserved g c =
    let n = c.args.len in let xs = g.N.Numbers.numbers c.args.numbers.now in let i = c.loop-i.i in
    let none : is_some c.bad_number-bad.result ≡ false = search rules in
    c.loop-i.invariant
    ∙ first_bad-read n xs i c.number.result c.bad_number-bad.result (search rules) c.number.ensures.value c.bad_number-bad.ensures
    ∙ goes_on n c.bad_number-bad.result _ none
