-- The bit is set.
use Rattle.std.proofs.Common.{rules, ◌≡◌, ◌%◌}
use Rattle.std.specs.Int.{bit_at}
use Rattle.std.proofs.lemmas.Nat.Bits.{shr_and_one}
use Rattle.vx_positions.proofs.shown.number_by.Goals as goal

pub returns-then-word-i-eq1 : goal.returns-then-word-i-eq1
returns-then-word-i-eq1 g c =
    let bit : bit_at c.args.word (c.args.i % 64) ≡ 1 = search (rules, shr_and_one c.args.word (c.args.i % 64)) in
    rw bit c.number.ensures.value
