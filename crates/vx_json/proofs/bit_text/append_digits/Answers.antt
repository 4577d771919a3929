-- One digit after another.
use Rattle.std.proofs.Common.{sym, ◌∙◌}
use Rattle.std.proofs.lemmas.Result.{err_from_is_err_and}
use Rattle.vx_json.specs.Meaning.{with_read}
use Rattle.vx_json.specs.BitText.{bits_in}
use Rattle.vx_json.proofs.BitReading.{next_digit, no_next_digit, none_left}
use Rattle.vx_json.proofs.bit_text.append_digits.Goals as goal

pub returns-in_err-bit_named : goal.returns-in_err-bit_named
returns-in_err-bit_named c =
    let r = c.from_residual in
    let p = err_from_is_err_and r.result r.ensures.1 in
    rw (p.1, p.2) (no_next_digit c.args.text.now c.loop-byte.byte-index c.loop-byte.bits (with_read c.args.bits.now (bits_in c.args.text.now)) c.loop-byte.invariant c.in_err-bit_named.field-0.0 c.loop-byte-test.true c.in_err-bit_named.ensures)

pub loop-byte-preserved : goal.loop-byte-preserved
loop-byte-preserved c =
    rw c.in_ok-append.ensures.ok (next_digit c.args.text.now c.loop-byte.byte-index c.loop-byte.bits (with_read c.args.bits.now (bits_in c.args.text.now)) c.loop-byte.invariant c.in_ok-bit_named.field-0 c.loop-byte-test.true c.in_ok-bit_named.ensures)

pub returns : goal.returns
returns c =
    sym c.loop-byte.invariant ∙ none_left c.loop-byte.bits c.args.text.now c.loop-byte.byte-index c.loop-byte-test.false
