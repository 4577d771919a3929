use Rattle.std.proofs.Common.{◌≡◌, ◌∙◌, ◌^◌, ◌-◌, ◌++◌, OnOk, subst, sym, arith}
use Rattle.std.proofs.lemmas.List.{take_all}
use Rattle.vx_bits.specs.Words.{word_bits}
use Rattle.vx_bits.proofs.WordBits.{length-word_bits}
use Rattle.vx_bits.proofs.WordLists.{picked_full_word}
use Rattle.vx_bitfilter.proofs.PackedLaws.{pext-word_bits}
use Rattle.vx_bitfilter.proofs.words.append_picked.Goals as goal

pub returns-then-picks-eq18446744073709551615-clause-ok : goal.returns-then-picks-eq18446744073709551615-clause-ok
returns-then-picks-eq18446744073709551615-clause-ok c =
    let bits = word_bits c.args.word 64 in
    let full : c.args.picks ≡ 2 ^ 64 - 1 = omega (arith, c.if-picks-eq18446744073709551615.true) in
    let all = picked_full_word c.args.picks bits full ∙ take_all 64 bits (omega (arith, length-word_bits c.args.word 64)) in
    subst (λ l. OnOk c.append_word.result (c.append_word.new.self ≡ c.args.kept.now ++ l)) (sym all) c.append_word.ensures.ok

pub returns-clause-ok : goal.returns-clause-ok
returns-clause-ok c =
    let bits = pext-word_bits c.args.word c.args.picks _ c.ranges.picks.fits c.pext_fallback.ensures in
    subst (λ l. OnOk c.append_word-2.result (c.append_word-2.new.self ≡ c.args.kept.now ++ l)) bits c.append_word-2.ensures.ok
