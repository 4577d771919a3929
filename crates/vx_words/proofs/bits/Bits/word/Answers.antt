use Rattle.std.proofs.Common.{◌≡◌, ◌+◌, ◌-◌, ◌*◌, ◌/◌, ◌<◌, min, get_or, length, refl, sym, ap, ◌∙◌, arith}
use Rattle.vx_bits.specs.Words.{word_at}
use Rattle.vx_words.proofs.BitWords.{IsNext, cut_word, length-bits_at}
use Rattle.vx_words.proofs.bits.Bits.word.Goals.{then-first-self, else-first-self, then-i-self, else-i-self}
use Rattle.vx_words.proofs.bits.Bits.word.Goals as goal

pub returns : goal.returns
returns c =
    let b = c.self.inside in
    let words = b.words.now in
    let q = b.offset / 64 + c.args.i in
    let long = sym (ap length c.self.view_is) ∙ length-bits_at words b.offset b.len c.self.invariant in
    let next : IsNext words q c.if-first-self.high = elim c.if-first-self.branch [
      | then-first-self w ↦ record { there = λ h. w.high-is; none = λ h. absurd (omega (arith, w.if-first-self.true, h)) }
      | else-first-self w ↦ record { there = λ h. absurd (omega (arith, w.if-first-self.false, h)); none = λ h. w.high-is }
    ] in
    let count = c.if-i-self.count in
    let some : 64 * c.args.i < b.len = omega (arith, c.requires, long) in
    let is_count : count ≡ min (b.len - 64 * c.args.i) 64 = elim c.if-i-self.branch [
      | then-i-self w ↦ omega (arith, w.count-is, w.if-i-self.true)
      | else-i-self w ↦ omega (arith, w.count-is, w.if-i-self.false, some)
    ] in
    cut_word words b.offset b.len c.args.i (get_or words q 0) c.if-first-self.high count c.cut.result c.self.invariant some is_count (omega arith) refl next c.cut.ensures
    ∙ ap (λ l. word_at l c.args.i) c.self.view_is
