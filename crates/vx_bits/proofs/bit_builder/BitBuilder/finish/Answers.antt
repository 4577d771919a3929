use Rattle.std.proofs.Common.{◌≡◌, ◌+◌, ◌*◌, ◌^◌, ◌<◌, ◌≤◌, ◌++◌, Bool, List, length, ap, ap₂, sym, ◌∙◌, arith}
use Rattle.std.specs.Int.{to_le_bytes, w64}
use Rattle.std.proofs.lemmas.List.{length-append}
use Rattle.std.proofs.Math.Pow.{pow_mono}
use Rattle.vx_bits.specs.BitBuffer.{PlacedBits, bits_of}
use Rattle.vx_bits.proofs.BuiltLists.{built_end, length-built}
use Rattle.vx_bits.proofs.bit_builder.BitBuilder.finish.Goals as goal

pub from_start-requires : goal.from_start-requires
from_start-requires c =
    let b = c.self.inside in
    let pushed = c.put_eight.ensures.items ∙ ap (λ l. l ++ to_le_bytes w64 b.next) c.reserve.ensures.items in
    let long = ap length (c.in_ok-from_vec.ensures ∙ pushed) ∙ length-append b.bytes.items (to_le_bytes w64 b.next) in
    omega (arith, long, c.len-len.ensures, ap length c.self.view_is, length-built b.bytes.items b.next b.held, c.self.invariant.open_word)

pub returns : goal.returns
returns c =
    let b = c.self.inside in
    let n = 8 * length b.bytes.items + b.held in
    let pushed = c.put_eight.ensures.items ∙ ap (λ l. l ++ to_le_bytes w64 b.next) c.reserve.ensures.items in
    let long : c.len-len.result ≡ n = c.len-len.ensures ∙ sym (ap length c.self.view_is) ∙ length-built b.bytes.items b.next b.held in
    let short : b.held ≤ 64 = omega (arith, c.self.invariant.open_word) in
    let small : 2 ^ b.held ≤ 2 ^ 64 = pow_mono short in
    let fits : b.next < 2 ^ 64 = omega (arith, c.self.invariant.clean, small) in
    let bits = ap₂ (λ l m. bits_of l 0 m) c.in_ok-from_vec.ensures long ∙ built_end b.bytes.items c.put_eight.new.bytes.items b.next b.held short fits pushed ∙ c.self.view_is in
    c.from_start.ensures ∙ ap (λ (l : List Bool). let p : PlacedBits = record { bits = l; offset = 0 } in p) bits
