use Rattle.std.proofs.Common.{◌≡◌, ℕ, ◌+◌, ◌-◌, ◌*◌, ◌%◌, ◌^◌, ◌<◌, ◌≤◌, ◌++◌, ap, sym, subst, ◌∙◌, arith}
use Rattle.std.proofs.lemmas.Nat.{mod_below, pow_pos, shr_below}
use Rattle.std.proofs.Math.Pow.{pow_mono}
use Rattle.vx_bits.proofs.BuiltLists.{built_more, built_word, joined_below}
use Rattle.vx_bits.specs.Words.{word_bits}
use Rattle.vx_bits.proofs.bit_builder.BitBuilder.append_word.Goals as goal

pub invariant_of-self : goal.invariant_of-self
invariant_of-self c =
    let b = c.self.inside in
    let v = c.self.invariant in
    let all = c.joined-all.ensures ∙ ap (λ m. m * 2 ^ b.held + b.next) c.lowest_bits.ensures in
    let below = joined_below b.next b.held (c.args.word % 2 ^ c.args.n) c.args.n _ v.clean (mod_below c.args.word (2 ^ c.args.n) (pow_pos c.args.n)) all in
    record { open_word = omega arith; clean = omega (arith, c.low_half-self-inside.ensures); counted = v.counted }

pub returns-then-held-lt64-clause-ok : goal.returns-then-held-lt64-clause-ok
returns-then-held-lt64-clause-ok c =
    let b = c.self.inside in
    let v = c.self.invariant in
    let n = c.args.n in
    let all = c.joined-all.ensures ∙ ap (λ m. m * 2 ^ b.held + b.next) c.lowest_bits.ensures in
    let below = joined_below b.next b.held (c.args.word % 2 ^ n) n _ v.clean (mod_below c.args.word (2 ^ n) (pow_pos n)) all in
    let short : b.held + n ≤ 64 = omega arith in
    let small : 2 ^ (b.held + n) ≤ 2 ^ 64 = pow_mono short in
    let same : c.low_half-self-inside.result ≡ c.args.word % 2 ^ n * 2 ^ b.held + b.next = omega (arith, c.low_half-self-inside.ensures) in
    built_more b.bytes.items b.next b.held c.args.word n _ v.clean same ∙ ap (λ l. l ++ word_bits c.args.word n) c.self.view_is

pub invariant_of-self-2 : goal.invariant_of-self-2
invariant_of-self-2 c =
    let b = c.self.inside in
    let v = c.self.invariant in
    let n = c.args.n in
    let r = b.held + n - 64 in
    let all = c.joined-all.ensures ∙ ap (λ m. m * 2 ^ b.held + b.next) c.lowest_bits.ensures in
    let below = joined_below b.next b.held (c.args.word % 2 ^ n) n _ v.clean (mod_below c.args.word (2 ^ n) (pow_pos n)) all in
    let sum : b.held + n ≡ r + 64 = omega arith in
    let high = shr_below c.joined-all.result r 64 (subst (λ (k : ℕ). c.joined-all.result < 2 ^ k) sum below) in
    record { open_word = omega arith; clean = subst (λ (x : ℕ). x < 2 ^ r) (sym c.high_half-self-inside.ensures) high; counted = c.in_ok-push_word.ensures.counted }

pub returns-clause-ok : goal.returns-clause-ok
returns-clause-ok c =
    let b = c.self.inside in
    let n = c.args.n in
    let all = c.joined-all.ensures ∙ ap (λ m. m * 2 ^ b.held + b.next) c.lowest_bits.ensures in
    built_word b.bytes.items c.push_word.new.bytes.items b.next b.held c.args.word n c.joined-all.result c.low_half.result c.high_half-self-inside.result (b.held + n - 64) c.self.invariant.clean all c.low_half.ensures c.high_half-self-inside.ensures (omega arith) c.in_ok-push_word.ensures.ok
    ∙ ap (λ l. l ++ word_bits c.args.word n) c.self.view_is
