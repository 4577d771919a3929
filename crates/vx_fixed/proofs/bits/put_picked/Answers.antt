-- A full word, and any other.
use Rattle.std.proofs.Common.{◌≡◌, ◌+◌, ◌++◌, ℕ, List, length, sym, subst, arith}
use Rattle.std.specs.Int.RustNames.{count_ones}
use Rattle.vx_filter.proofs.Moves.{full_word_places}
use Rattle.vx_fixed.specs.Rows.{ArePut}
use Rattle.vx_fixed.proofs.Rows.{full_ones, full_there, rows_in, times_mono}
use Rattle.vx_fixed.proofs.bits.put_picked.Goals as goal

pub put_rows-requires-clause-there : goal.put_rows-requires-clause-there
put_rows-requires-clause-there g c = full_there g.row.W c.args.src.now c.args.from c.args.base c.args.word c.if-word-eq18446744073709551615.true c.requires.there

pub put_rows-requires-clause-small : goal.put_rows-requires-clause-small
put_rows-requires-clause-small g c =
    omega (arith, rows_in g.row.W (c.args.from + c.args.base + 64) (length c.args.src.now) c.requires.wide (full_there g.row.W c.args.src.now c.args.from c.args.base c.args.word c.if-word-eq18446744073709551615.true c.requires.there))

pub put_rows-requires-clause-room : goal.put_rows-requires-clause-room
put_rows-requires-clause-room g c =
    let ones : count_ones c.args.word ≡ 64 = full_ones c.args.word c.if-word-eq18446744073709551615.true in
    omega (arith, c.requires.room, times_mono (c.args.kept + 64) (c.args.kept + count_ones c.args.word) g.row.W (omega (arith, ones)))

pub returns-then-word-eq18446744073709551615-clause-count :
    goal.returns-then-word-eq18446744073709551615-clause-count
returns-then-word-eq18446744073709551615-clause-count g c = let ones : count_ones c.args.word ≡ 64 = full_ones c.args.word c.if-word-eq18446744073709551615.true in omega (arith, ones)

pub returns-then-word-eq18446744073709551615-clause-put :
    goal.returns-then-word-eq18446744073709551615-clause-put
returns-then-word-eq18446744073709551615-clause-put g c = λ old places len put.
    subst (λ (l : List ℕ). ArePut g.row.W c.args.src.now c.args.from (places ++ l) old c.put_rows.new.out) (sym (full_word_places c.args.base c.args.word c.if-word-eq18446744073709551615.true))
    (c.put_rows.ensures old places len put)
