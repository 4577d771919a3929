-- A word that is no text is among the words.
use Rattle.std.proofs.Common.{[], length, get_or, map, string_bytes, refl, arith}
use Rattle.std.proofs.lemmas.Bool.Decides.{nat_tests}
use Rattle.std.proofs.lemmas.Result.{err_from_is_err_and}
use Rattle.vortex_rows_c.proofs.WordParts.{bad_last_word, bad_word, same_cause}
use Rattle.vortex_rows_c.proofs.words.words_of.Goals as goal

pub returns-in_err-end_word-clause-text : goal.returns-in_err-end_word-clause-text
returns-in_err-end_word-clause-text c =
    let p = err_from_is_err_and c.from_residual.result c.from_residual.ensures.1 in
    let l = c.loop-byte in
    let bytes = c.args.bytes.now in
    rw (p.1, p.2) (λ fault.
    bad_word bytes (map string_bytes l.words.items) [] l.word.items l.byte-index (get_or bytes l.byte-index 0) l.invariant c.loop-byte-test.true refl c.if-byte-eq0.true (c.in_err-end_word.ensures.text (same_cause _ _ fault)))

pub returns-in_err-end_word-2-clause-text : goal.returns-in_err-end_word-2-clause-text
returns-in_err-end_word-2-clause-text c =
    let p = err_from_is_err_and c.from_residual-in_err-end_word-2.result c.from_residual-in_err-end_word-2.ensures.1 in
    let l = c.loop-byte in
    rw (p.1, p.2) (λ fault.
    bad_last_word c.args.bytes.now (map string_bytes l.words.items) [] l.word.items l.byte-index 0 l.invariant c.loop-byte-test.false
    (λ none. absurd (grind (arith, nat_tests))) (c.in_err-end_word-2.ensures.text (same_cause _ _ fault)))
