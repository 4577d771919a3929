use Rattle.std.proofs.Common.{◌≡◌, ◌+◌, ◌*◌, ◌%◌, ◌≤◌, ◌-◌, length, ap, sym, ◌∙◌, rules, arith}
use Rattle.vx_bits.specs.BitBuffer.{bits_of, number_of}
use Rattle.vx_bits.specs.Words.{word_at}
use Rattle.vx_bits.proofs.BitLists.{length_bits, reaches-no_fault}
use Rattle.vx_bits.proofs.ByteWords.{front_word, inner_word}
use Rattle.vx_bits.proofs.words.Words.word.Goals as goal

pub returns-then-i-self : goal.returns-then-i-self
returns-then-i-self c =
    let w = c.self.inside in
    let i = c.args.i in
    let inside : 64 * i + 64 ≤ w.len = omega (arith, c.if-i-self.true) in
    inner_word w.bytes.now w.shift w.len i c.word_from.result inside (omega arith) c.word_from.ensures
    ∙ ap (λ l. word_at l i) c.self.view_is

pub overflow_mul-i-2 : goal.overflow_mul-i-2
overflow_mul-i-2 c =
    let w = c.self.inside in
    let reached = reaches-no_fault (length w.bytes.now) w.shift w.len c.self.invariant in
    let long = ap length c.self.view_is in
    search (rules, arith, length_bits w.bytes.now w.shift w.len, long, reached.counted)

pub last_word-requires-clause-within : goal.last_word-requires-clause-within
last_word-requires-clause-within c =
    let w = c.self.inside in
    let reached = reaches-no_fault (length w.bytes.now) w.shift w.len c.self.invariant in
    let long = sym (ap length c.self.view_is) ∙ length_bits w.bytes.now w.shift w.len in
    omega (arith, reached.within, long, c.requires)

pub last_word-requires-clause-counted : goal.last_word-requires-clause-counted
last_word-requires-clause-counted c =
    let w = c.self.inside in
    let reached = reaches-no_fault (length w.bytes.now) w.shift w.len c.self.invariant in
    let long = sym (ap length c.self.view_is) ∙ length_bits w.bytes.now w.shift w.len in
    omega (arith, reached.counted, long, c.requires)

pub returns : goal.returns
returns c =
    let w = c.self.inside in
    let i = c.args.i in
    let long = sym (ap length c.self.view_is) ∙ length_bits w.bytes.now w.shift w.len in
    let base : 64 * i ≤ w.len = omega (arith, long, c.requires) in
    let left : w.len % 64 ≡ w.len - 64 * i = omega (arith, long, c.requires, c.if-i-self.false) in
    c.last_word.ensures
    ∙ ap (λ n. number_of (bits_of w.bytes.now (8 * (8 * i) + w.shift) n)) left
    ∙ front_word w.bytes.now w.shift w.len i base (omega arith)
    ∙ ap (λ l. word_at l i) c.self.view_is
