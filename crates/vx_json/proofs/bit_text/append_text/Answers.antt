-- The words, and then the rest.
use Rattle.std.proofs.lemmas.Result.{err_from_is_err_and}
use Rattle.vx_json.proofs.BitReading.{front_fails, rest_leaves}
use Rattle.vx_json.proofs.bit_text.append_text.Goals as goal

pub returns-in_err-append_words : goal.returns-in_err-append_words
returns-in_err-append_words c =
    let p = err_from_is_err_and c.from_residual.result c.from_residual.ensures.1 in
    rw (p.1, p.2) (front_fails c.args.bits.now c.args.text.now _ c.in_err-append_words.field-0.0 c.in_err-append_words.ensures)

pub returns : goal.returns
returns c =
    rest_leaves c.args.bits.now c.args.text.now _ c.append_words.new.bits c.append_few.new.bits c.append_few.result c.in_ok-append_words.ensures c.append_few.ensures
