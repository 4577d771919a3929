use Rattle.std.proofs.Common.{◌≡◌, ℕ, List, ◌≤◌, length, ap, ◌∙◌, arith}
use Rattle.vx_packed.specs.Chunk.{spell, spell_list}
use Rattle.vx_packed.proofs.Rules.{small_width}
use Rattle.vx_file.specs.File.{whole_block}
use Rattle.vx_file.proofs.FileBlocks.{chunk-filled, length-filled, spell_one, spell_short}
use Rattle.vx_file.proofs.write.packed_block.Goals as goal
use Rattle.vx_lemmas.proofs.Results.{if_ok}

spelled : (given numbers : List ℕ) → length numbers ≤ 1024 → given ≡ whole_block numbers → spell_list given ≡ spell (whole_block numbers)
spelled given numbers few e = ap spell_list e ∙ spell_one (whole_block numbers) (length-filled numbers few)

pub returns-clause-bytes : goal.returns-clause-bytes
returns-clause-bytes c =
    let numbers = c.args.numbers.now in
    let same = spelled c.deref.result.now numbers c.requires.few (c.deref.ensures.value ∙ c.in_ok-chunk.ensures) in
    if_ok c.pack.result c.pack.ensures (λ v e. e ∙ same)

pub returns-clause-short : goal.returns-clause-short
returns-clause-short c =
    let numbers = c.args.numbers.now in
    let same = spelled c.deref.result.now numbers c.requires.few (c.deref.ensures.value ∙ c.in_ok-chunk.ensures) in
    let short = spell_short c.args.width (whole_block numbers) (small_width c.args.width c.requires.width).most (chunk-filled c.args.width numbers c.requires.some c.requires.few c.requires.below) in
    if_ok c.pack.result c.pack.ensures (λ v e. omega (arith, ap length (e ∙ same), short))
