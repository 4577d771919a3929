use Rattle.std.proofs.lemmas.Bool.{false≢true, false_from_ne_true}
use Rattle.std.proofs.lemmas.Str.{IsUtf8-from_is_utf8}
use Rattle.std.specs.Str.{is_utf8}
use Rattle.vortex_rows_c.proofs.words.end_word.Goals as goal

pub returns-in_default-clause-text : goal.returns-in_default-clause-text
returns-in_default-clause-text c = λ _.
    false_from_ne_true (is_utf8 c.args.word.items)
    (λ e. absurd (false≢true (c.in_default.ensures.succeeds (IsUtf8-from_is_utf8 c.args.word.items e))))
