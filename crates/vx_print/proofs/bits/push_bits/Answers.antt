use Rattle.std.proofs.Common.{◌≡◌, ◌+◌, ◌-◌, ◌*◌, ◌++◌, ◌∙◌, ◌≤◌, length, length-drop, sym, ap, take, drop, append_assoc, arith}
use Rattle.std.proofs.lemmas.List.{take_all}
use Rattle.std.proofs.lemmas.List.Concat.{flat_map-append}
use Rattle.vx_bits.specs.Words.{word_at, word_bits}
use Rattle.vx_bits.proofs.WordLists.{bits_in, length-bits_in, take_words, word_bits_in}
use Rattle.vx_print.specs.Text.{bit_text, line, lines}
use Rattle.vx_print.proofs.bits.push_bits.Goals as goal

pub loop-k-preserved : goal.loop-k-preserved
loop-k-preserved c =
    let s = c.loop-k in
    let bits = c.args.bits.now.bits in
    let before = c.args.text.now.items in
    let done = take (64 * s.k) bits in
    let part = bits_in bits s.k in
    let at = c.put_lines-at.result in
    let dst = c.put_lines-at.new.dst in
    let many : c.min-rows.result ≡ length part = omega (arith, length-bits_in bits s.k) in
    let word : word_bits c.word.result c.min-rows.result ≡ part = ap (λ w. word_bits w c.min-rows.result) c.word.ensures ∙ word_bits_in bits s.k c.min-rows.result many in
    let short : length (drop at dst) ≤ 4352 - at = omega (arith, length-drop at dst) in
    c.in_ok-extend_from_slice.ensures.items
    ∙ ap (λ l. s.text.items ++ l) (take_all (4352 - at) (drop at dst) short ∙ c.put_lines-at.ensures.put ∙ ap (lines bit_text) word)
    ∙ ap (λ l. l ++ lines bit_text part) s.invariant
    ∙ append_assoc before (lines bit_text done) (lines bit_text part)
    ∙ sym (ap (λ l. before ++ l) (ap (lines bit_text) (take_words bits s.k) ∙ flat_map-append (λ b. line (bit_text b)) done part))
