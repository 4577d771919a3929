use Rattle.std.proofs.Common.{◌≡◌, ◌+◌, ◌-◌, ap, ap₂, ◌∙◌, arith}
use Rattle.vx_bits.specs.BitBuffer.{bits_of, true_count_of}
use Rattle.vx_bits.proofs.BitLists.{are_fields}
use Rattle.vx_bits.proofs.bit_buffer.BitBuffer.true_count.Goals as goal

pub returns : goal.returns
returns c =
    let b = c.self.inside in
    let fields = are_fields b.bytes b.offset b.len _ c.self.view_is c.self.invariant in
    let long : b.offset + b.len - b.offset ≡ b.len = omega arith in
    c.count_between.ensures ∙ ap₂ (λ l n. true_count_of (bits_of l b.offset n)) c.as_slice.ensures long ∙ ap true_count_of fields.bits
