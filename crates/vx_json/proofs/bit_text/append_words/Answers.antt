-- 64 digits after another.
use Rattle.std.proofs.Common.{◌≡◌, ◌+◌, ◌-◌, ◌*◌, sym, ◌∙◌, arith}
use Rattle.std.proofs.lemmas.Result.{err_from_is_err_and}
use Rattle.vx_bits.specs.Words.{word_bits}
use Rattle.vx_json.specs.Meaning.{with_read}
use Rattle.vx_json.specs.BitText.{bits_in}
use Rattle.vx_json.proofs.BitReading.{next_part, no_next_part, none_left}
use Rattle.vx_json.proofs.bit_text.append_words.Goals as goal

pub returns-in_err-word_named : goal.returns-in_err-word_named
returns-in_err-word_named c =
    let r = c.from_residual in
    let p = err_from_is_err_and r.result r.ensures.1 in
    let k = 64 * c.loop-i.i in
    rw (p.1, p.2) (no_next_part c.args.text.now k c.loop-i.bits (with_read c.args.bits.now (bits_in c.args.text.now)) c.loop-i.invariant (k + 64 - k) c.in_err-word_named.field-0.0 c.in_err-word_named.ensures)

pub loop-i-preserved : goal.loop-i-preserved
loop-i-preserved c =
    let k = 64 * c.loop-i.i in let bits = word_bits c.in_ok-word_named.field-0 64 in
    let at : 64 * (c.loop-i.i + 1) ≡ k + (k + 64 - k) = omega arith in
    let next = next_part c.args.text.now k c.loop-i.bits (with_read c.args.bits.now (bits_in c.args.text.now)) c.loop-i.invariant (k + 64 - k) bits c.in_ok-word_named.ensures in
    rw (c.in_ok-append_word.ensures.ok, at) next

pub returns : goal.returns
returns c =
    sym c.loop-i.invariant ∙ none_left c.loop-i.bits c.args.text.now (64 * c.loop-i.i) (omega arith)
