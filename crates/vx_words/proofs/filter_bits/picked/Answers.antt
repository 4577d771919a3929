use Rattle.std.proofs.Common.{◌≡◌, ◌-◌, ◌^◌, sym, ap, ◌∙◌, arith}
use Rattle.std.specs.Int.RustNames.{count_ones}
use lib.Count.{ones-ones}
use Rattle.vx_words.proofs.BitWords.{full_pext}
use Rattle.vx_words.proofs.filter_bits.picked.Goals as goal
use Rattle.vx_bitfilter.proofs.PackedBytes.{pext-none}

pub returns-then-picks-eq0-clause-bits : goal.returns-then-picks-eq0-clause-bits
returns-then-picks-eq0-clause-bits c = sym (pext-none c.args.word c.args.picks c.if-picks-eq0.true)

pub returns-then-picks-eq0-clause-count : goal.returns-then-picks-eq0-clause-count
unfolding count_ones
returns-then-picks-eq0-clause-count c = sym (ap count_ones c.if-picks-eq0.true)

pub returns-then-picks-eq18446744073709551615-clause-bits : goal.returns-then-picks-eq18446744073709551615-clause-bits
returns-then-picks-eq18446744073709551615-clause-bits c = full_pext c.args.word c.args.picks c.ranges.word.fits (omega arith)

pub returns-then-picks-eq18446744073709551615-clause-count : goal.returns-then-picks-eq18446744073709551615-clause-count
returns-then-picks-eq18446744073709551615-clause-count c =
    let full : c.args.picks ≡ 2 ^ 64 - 1 = omega arith in
    sym (ap count_ones full ∙ ones-ones 64)
