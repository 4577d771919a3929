use Rattle.std.proofs.Common.{◌+◌, ap, ◌∙◌, arith}
use Rattle.vx_bits.proofs.WordBits.{true_count_of-word_bits}
use Rattle.vx_filter.proofs.Moves.{same_further}
use Rattle.vx_words.proofs.rows.copy_rows.Goals as goal

pub returns-then-src-base-ge64-clause-count : goal.returns-then-src-base-ge64-clause-count
returns-then-src-base-ge64-clause-count g c =
    c.put_rows.ensures.count ∙ ap (λ n. c.args.kept + n) (true_count_of-word_bits c.args.word 64 (omega arith))

pub returns-then-src-base-ge64-clause-rest : goal.returns-then-src-base-ge64-clause-rest
returns-then-src-base-ge64-clause-rest g c =
    same_further c.args.dst.now c.put_rows.new.dst (c.args.kept + 64) c.args.end (omega arith) c.put_rows.ensures.rest

pub returns-else-word-ne0-clause-rest : goal.returns-else-word-ne0-clause-rest
returns-else-word-ne0-clause-rest g c =
    same_further c.args.dst.now c.copy_picked.new.dst c.copy_picked.result c.args.end (omega (arith, c.copy_picked.ensures.count, c.requires.room)) c.copy_picked.ensures.rest
