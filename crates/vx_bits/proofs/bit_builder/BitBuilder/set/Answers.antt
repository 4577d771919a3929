use Rattle.std.proofs.Common.{◌≡◌, ◌+◌, ◌-◌, ◌*◌, ◌/◌, ◌%◌, ◌^◌, ◌<◌, length, set, true, bit_or, ap, ◌∙◌, arith}
use Rattle.std.proofs.lemmas.List.{get_or_default}
use Rattle.vx_bits.proofs.BuiltLists.{built_set_byte, built_set_next, length-built, set_below}
use Rattle.vx_bits.proofs.bit_builder.BitBuilder.set.Goals as goal

pub overflow_shl-self : goal.overflow_shl-self
overflow_shl-self c =
    let b = c.self.inside in
    omega (arith, length-built b.bytes.items b.next b.held, ap length c.self.view_is, c.len-whole.ensures, b.bytes.ok.0)

pub invariant_of-self-else-i-whole : goal.invariant_of-self-else-i-whole
invariant_of-self-else-i-whole c =
    let b = c.self.inside in
    let v = c.self.invariant in
    let within : c.args.i - 8 * c.len-whole.result < b.held = omega (arith, length-built b.bytes.items b.next b.held, ap length c.self.view_is, c.len-whole.ensures, b.bytes.ok.0) in
    record { open_word = v.open_word; clean = set_below b.next (c.args.i - 8 * c.len-whole.result) b.held v.clean within (omega arith); counted = v.counted }

pub returns-then-i-whole : goal.returns-then-i-whole
returns-then-i-whole c =
    let b = c.self.inside in
    let items = b.bytes.items in
    let q = c.args.i / 8 in
    let within : c.args.i < 8 * length items = omega (arith, c.len-whole.ensures, b.bytes.ok.0) in
    let old = c.index_mut.ensures.value ∙ get_or_default items q c.index_mut.result.now 0 (omega arith) in
    built_set_byte items _ b.next b.held c.args.i within (ap (λ x. set items q (bit_or x (1 * 2 ^ (c.args.i % 8) % 256))) old) ∙ ap (λ l. set l c.args.i true) c.self.view_is

pub returns-else-i-whole : goal.returns-else-i-whole
returns-else-i-whole c =
    let b = c.self.inside in
    let k = c.args.i - 8 * c.len-whole.result in
    let within : k < b.held = omega (arith, length-built b.bytes.items b.next b.held, ap length c.self.view_is, c.len-whole.ensures, b.bytes.ok.0) in
    let place : 8 * length b.bytes.items + k ≡ c.args.i = omega (arith, c.len-whole.ensures, b.bytes.ok.0, c.if-i-whole.false) in
    built_set_next b.bytes.items b.next b.held c.args.i k place within (omega (arith, c.self.invariant.open_word)) ∙ ap (λ l. set l c.args.i true) c.self.view_is
