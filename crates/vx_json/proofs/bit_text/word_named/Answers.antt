-- One byte more.
use Rattle.std.proofs.Common.{◌≡◌, ◌+◌, ◌-◌, ◌*◌, ℕ, drop, sym, ap, ◌∙◌, arith}
use Rattle.std.proofs.lemmas.Result.{err_from_is_err_and}
use Rattle.vx_bits.specs.Words.{word_bits}
use Rattle.vx_bits.proofs.WordBits.{word_bits-none}
use Rattle.vx_json.specs.Meaning.{with_read}
use Rattle.vx_json.specs.BitText.{bits_in}
use Rattle.vx_json.proofs.BitReading.{next_part, no_next_part, none_left, word_more}
use Rattle.vx_json.proofs.Reading.{none_read}
use Rattle.vx_json.proofs.bit_text.word_named.Goals as goal

pub loop-k-init : goal.loop-k-init
loop-k-init c = record {
  reading = rw (word_bits-none 0) (none_read (bits_in c.args.digits.now));
  below = omega arith;
}

pub returns-in_err-word : goal.returns-in_err-word
returns-in_err-word c =
    let r = c.from_residual in
    let p = err_from_is_err_and r.result r.ensures.1 in
    let k = 8 * c.loop-k.k in
    rw (p.1, p.2) (no_next_part c.args.digits.now k (word_bits c.loop-k.word k) (bits_in c.args.digits.now) c.loop-k.invariant.reading (k + 8 - k) c.in_err-word.field-0.0 c.in_err-word.ensures.bits)

pub overflow_add-word : goal.overflow_add-word
overflow_add-word c = omega (arith, (word_more c.loop-k.word c.in_ok-word.field-0 c.loop-k.k c.loop-k-test.true c.loop-k.invariant.below c.in_ok-word.ensures.byte).fits)

pub loop-k-preserved : goal.loop-k-preserved
loop-k-preserved c =
    let k = 8 * c.loop-k.k in let bits = word_bits c.in_ok-word.field-0 8 in
    let more = word_more c.loop-k.word c.in_ok-word.field-0 c.loop-k.k c.loop-k-test.true c.loop-k.invariant.below c.in_ok-word.ensures.byte in
    let at : 8 * (c.loop-k.k + 1) ≡ k + (k + 8 - k) = omega arith in
    let next = next_part c.args.digits.now k (word_bits c.loop-k.word k) (bits_in c.args.digits.now) c.loop-k.invariant.reading (k + 8 - k) bits c.in_ok-word.ensures.bits in
    record {
      reading = rw (more.bits, at) next;
      below = more.below;
    }

pub returns : goal.returns
returns c =
    let all : 8 * c.loop-k.k ≡ 64 = omega arith in
    sym c.loop-k.invariant.reading ∙ ap (λ (n : ℕ). with_read (word_bits c.loop-k.word n) (bits_in (drop n c.args.digits.now))) all ∙ none_left (word_bits c.loop-k.word 64) c.args.digits.now 64 (omega arith)
