-- One bit more, below the others.
use Rattle.std.proofs.Common.{◌≡◌, ℕ, ◌+◌, ◌-◌, ◌*◌, Bool, cond, false, ap, ◌∙◌, arith}
use Rattle.vx_cuts.specs.Interleaving.{item_at}
use Rattle.vx_cuts.specs.Bits.{bits_in}
use Rattle.vx_cuts.proofs.BitPlaces.{word_below, word_more}
use Rattle.vx_cuts.proofs.bits.word.Goals as goal
use Rattle.vx_lemmas.proofs.Bools.{from_bool-cond}

pub overflow_mul-word : goal.overflow_mul-word
overflow_mul-word c =
    let bit : ℕ → Bool = item_at false (bits_in c.args.lists.now) c.args.parts.now c.args.rows.now in
    omega (arith, word_below bit (c.args.start + (c.args.count - c.loop-j.j)) c.loop-j.j 63 c.loop-j.word c.loop-j.invariant (omega (arith, c.requires.short)))

pub overflow_add-word : goal.overflow_add-word
overflow_add-word c =
    let bit : ℕ → Bool = item_at false (bits_in c.args.lists.now) c.args.parts.now c.args.rows.now in
    let below = word_below bit (c.args.start + (c.args.count - c.loop-j.j)) c.loop-j.j 63 c.loop-j.word c.loop-j.invariant (omega (arith, c.requires.short)) in
    grind (arith, below)

pub loop-j-preserved : goal.loop-j-preserved
loop-j-preserved c =
    let bit : ℕ → Bool = item_at false (bits_in c.args.lists.now) c.args.parts.now c.args.rows.now in
    let j = c.loop-j.j in
    let k = c.args.start + (c.args.count - (j + 1)) in
    let next : c.args.start + (c.args.count - j) ≡ k + 1 = omega arith in
    let here : c.args.start + (c.args.count - 1 - j) ≡ k = omega arith in
    let is : c.from.result ≡ cond (bit k) 1 0 = c.from.ensures ∙ from_bool-cond c.bit_in.result ∙ ap (λ (b : Bool). cond b 1 0) (c.bit_in.ensures ∙ ap bit here) in
    ap (λ (n : ℕ). 2 * c.loop-j.word + n) is ∙ word_more bit k (c.args.start + (c.args.count - j)) j c.loop-j.word next c.loop-j.invariant
