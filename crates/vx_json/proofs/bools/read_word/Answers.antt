-- One item before another.
use Rattle.std.proofs.Common.{◌≡◌, ◌+◌, ◌-◌, length, refl, arith}
use Rattle.std.proofs.lemmas.List.{drop_all}
use Rattle.std.proofs.lemmas.Result.{err_from_is_err_and}
use Rattle.vx_bits.specs.Words.{word_bits}
use Rattle.vx_bits.proofs.WordBits.{word_bits-none}
use Rattle.vx_json.specs.Items.{each}
use Rattle.vx_json.proofs.ItemBits.{bit_more}
use Rattle.vx_json.proofs.ItemParts.{front_read, front_fails}
use Rattle.vx_json.proofs.bools.read_word.Goals as goal

pub loop-passed-init : goal.loop-passed-init
unfolding each
loop-passed-init g c =
    let vs = c.args.items.now in
    record {
      reading = rw (drop_all (length vs - 0) vs (omega arith), word_bits-none 0) refl;
      below = omega arith;
    }

pub returns-in_err-bit : goal.returns-in_err-bit
returns-in_err-bit g c =
    let r = c.from_residual in
    let p = err_from_is_err_and r.result r.ensures.1 in
    let vs = c.args.items.now in
    rw (p.1, p.2) (front_fails (g.R.ReadBit.bit c.args.reader.now) vs (length vs - 1 - c.loop-passed.passed) c.index-items-items.result (omega arith) c.index-items-items.is c.in_err-bit.field-0.0 c.in_err-bit.ensures)

pub loop-passed-preserved : goal.loop-passed-preserved
loop-passed-preserved g c =
    let vs = c.args.items.now in
    let k = c.loop-passed.passed in
    let at = length vs - 1 - k in
    let this : length vs - (k + 1) ≡ at = omega arith in
    let next : at + 1 ≡ length vs - k = omega arith in
    let bit = c.in_ok-bit.bit in
    let word = c.loop-passed.word in
    let more = bit_more word bit k c.loop-passed.invariant.below in
    let read = front_read (g.R.ReadBit.bit c.args.reader.now) vs at c.index-items-items.result (omega arith) c.index-items-items.is bit (word_bits word k) c.in_ok-bit.ensures (rw next c.loop-passed.invariant.reading) in
    record {
      reading = rw (c.from.ensures, this, more.bits) read;
      below = rw c.from.ensures more.below;
    }
