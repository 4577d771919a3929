-- One word after another, and then the rest.
use Rattle.std.proofs.Common.{◌≡◌, ◌+◌, ◌-◌, ◌*◌, ◌%◌, ◌++◌, ℕ, Some, length, take, drop, refl, sym, ap, subst, ◌∙◌, arith}
use Rattle.std.proofs.lemmas.Result.{err_from_is_err_and}
use Rattle.serde_json.specs.View.{items_view}
use Rattle.vx_bits.specs.Words.{word_bits}
use Rattle.vx_json.specs.Meaning.{with_read}
use Rattle.vx_json.specs.Items.{each}
use Rattle.vx_json.proofs.Reading.{IsReading, reading_ends}
use Rattle.vx_json.proofs.ItemParts.{part_goes_on, part_fails, part_long}
use Rattle.vx_json.proofs.bools.append_items.Goals as goal

pub loop-i-init : goal.loop-i-init
loop-i-init g c = record { so_far = refl }

pub returns-in_err-read_word : goal.returns-in_err-read_word
returns-in_err-read_word g c =
    let r = c.from_residual in
    let p = err_from_is_err_and r.result r.ensures.1 in
    let meaning = g.R.ReadBit.bit c.args.reader.now in let vs = c.args.items.now in let k = 64 * c.loop-i.i in
    let whole = with_read c.args.bits.now (each meaning (items_view vs)) in
    rw (p.1, p.2) (part_fails meaning vs k c.loop-i.bits {whole = whole} c.loop-i.invariant (k + 64 - k) c.in_err-read_word.field-0.0 c.in_err-read_word.ensures)

pub loop-i-preserved : goal.loop-i-preserved
loop-i-preserved g c =
    let meaning = g.R.ReadBit.bit c.args.reader.now in
    let vs = c.args.items.now in let k = 64 * c.loop-i.i in let n = k + 64 - k in
    let whole = with_read c.args.bits.now (each meaning (items_view vs)) in
    let w = c.in_ok-read_word.field-0 in
    let at : 64 * (c.loop-i.i + 1) ≡ k + n = omega arith in
    let long : length (take n (drop k vs)) ≡ 64 = part_long vs k n (omega arith) ∙ omega arith in
    let read = rw long at c.in_ok-read_word.ensures in
    rw (c.in_ok-append_word.ensures.ok, at) (part_goes_on meaning vs k c.loop-i.bits {whole = whole} c.loop-i.invariant n (word_bits w 64) read)

pub returns : goal.returns
returns g c =
    let meaning = g.R.ReadBit.bit c.args.reader.now in
    let vs = c.args.items.now in let k = length vs - length vs % 64 in let n = length vs - k in
    let at : 64 * c.loop-i.i ≡ k = omega arith in
    let bits = c.loop-i.bits in
    let whole = with_read c.args.bits.now (each meaning (items_view vs)) in
    let so_far = subst (λ (j : ℕ). IsReading meaning vs j bits whole) at c.loop-i.invariant in
    let more = word_bits c.in_ok-read_word-2.field-0 (length (take n (drop k vs))) in
    reading_ends meaning vs (k + n) (bits ++ more) {whole = whole} (part_goes_on meaning vs k bits {whole = whole} so_far n more c.in_ok-read_word-2.ensures) (omega arith) ∙ ap Some (sym c.in_ok-append_word-2.ensures.ok)
