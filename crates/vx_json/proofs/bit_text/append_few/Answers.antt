-- The first eights, and then the rest.
use Rattle.std.proofs.lemmas.Result.{err_from_is_err_and}
use Rattle.vx_json.proofs.BitReading.{front_fails, rest_leaves}
use Rattle.vx_json.proofs.bit_text.append_few.Goals as goal

pub returns-in_err-append_bytes : goal.returns-in_err-append_bytes
returns-in_err-append_bytes c =
    let p = err_from_is_err_and c.from_residual.result c.from_residual.ensures.1 in
    rw (p.1, p.2) (front_fails c.args.bits.now c.args.text.now _ c.in_err-append_bytes.field-0.0 c.in_err-append_bytes.ensures)

pub returns : goal.returns
returns c =
    rest_leaves c.args.bits.now c.args.text.now _ c.append_bytes.new.bits c.append_digits.new.bits c.append_digits.result c.in_ok-append_bytes.ensures c.append_digits.ensures
