use Rattle.std.proofs.Common.{◌≡◌, ◌-◌, ◌++◌, ◌∙◌, ℕ, false, get_or, ap, sym, refl, take, drop, arith}
use Rattle.std.proofs.lemmas.List.{take_all}
use Rattle.vx_bits.specs.Words.{word_bits}
use Rattle.vx_bits.proofs.WordBits.{length-word_bits, get_or-word_bits}
use Rattle.vx_print.specs.Text.{bit_text, line, lines}
use Rattle.vx_print.proofs.Blocks.{drop_before, none_put}
use Rattle.vx_print.proofs.bits.put_lines.Goals as goal

pub loop-k-init : goal.loop-k-init
loop-k-init c =
    let n = c.args.len in
    let bits = word_bits c.args.word n in
    record {
      room = omega arith;
      within = omega arith;
      put = none_put (lines bit_text) c.args.dst.now bits 4352 n refl (omega arith) (omega (arith, length-word_bits c.args.word n));
    }

pub loop-k-preserved : goal.loop-k-preserved
loop-k-preserved c =
    let s = c.loop-k in
    let n = c.args.len in
    let w = c.args.word in
    let bits = word_bits w n in
    let i = n - 1 - s.k in
    let b = c.is_there.result in
    let is : b ≡ get_or bits i false =
    c.is_there.ensures ∙ get_or-word_bits w 64 i false (omega arith) ∙ sym (get_or-word_bits w n i false (omega arith)) in
    record {
      room = omega arith;
      within = omega arith;
      put = c.put_line-at.ensures.put ∙ ap (λ l. line (bit_text b) ++ l) s.invariant.put ∙ ap (lines bit_text) (drop_before bits n s.k b false (omega arith) (omega (arith, length-word_bits w n)) is);
    }

pub returns-clause-put : goal.returns-clause-put
returns-clause-put c =
    let s = c.loop-k in
    let n = c.args.len in
    let bits = word_bits c.args.word n in
    let none : n - s.k ≡ 0 = omega arith in
    s.invariant.put
    ∙ ap (λ (m : ℕ). lines bit_text (drop m (take n bits))) none
    ∙ ap (lines bit_text) (take_all n bits (omega (arith, length-word_bits c.args.word n)))
