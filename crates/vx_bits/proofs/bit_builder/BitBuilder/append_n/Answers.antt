use Rattle.std.proofs.Common.{◌-◌, ◌*◌, ◌%◌, ◌/◌, ◌^◌, ◌++◌, replicate, ap, ◌∙◌, refl, arith}
use Rattle.std.specs.Int.{to_le_bytes, w64}
use Rattle.vx_bits.proofs.BuiltLists.{built_alike, word_alike}
use Rattle.vx_bits.specs.Words.{word_bits}
use Rattle.vx_bits.proofs.bit_builder.BitBuilder.append_n.Goals as goal

pub returns-then-n-le64-clause-ok : goal.returns-then-n-le64-clause-ok
returns-then-n-le64-clause-ok c =
    let bits = ap (λ w. word_bits w c.args.n) c.word_alike-word.ensures ∙ word_alike c.args.bit c.args.n (omega arith) in
    rw bits at c.append_word.ensures.ok

pub returns-clause-ok : goal.returns-clause-ok
returns-clause-ok c =
    let b = c.self.inside in
    let room = 64 - b.held in
    let word = c.word_alike-word.ensures in
    let low = c.lowest_bits.ensures ∙ ap (λ w. w % 2 ^ room) word in
    let first = c.low_half-first.ensures ∙ ap (λ x. x % 2 ^ 64) c.joined.ensures in
    let rest = c.lowest_bits-self-inside.ensures ∙ ap (λ w. w % 2 ^ ((c.args.n - room) % 64)) word in
    let pushed = c.in_ok-push_words.ensures.ok ∙ ap (λ x. (b.bytes.items ++ to_le_bytes w64 c.low_half-first.result) ++ replicate (8 * ((c.args.n - room) / 64)) x) c.byte_alike.ensures in
    built_alike b.bytes.items c.push_words.new.bytes.items b.next b.held c.args.n ((c.args.n - room) / 64) ((c.args.n - room) % 64) c.low_half-first.result c.lowest_bits.result c.lowest_bits-self-inside.result c.args.bit
    c.self.invariant.open_word c.self.invariant.clean (omega arith) refl refl low first rest pushed
    ∙ ap (λ l. l ++ replicate c.args.n c.args.bit) c.self.view_is
