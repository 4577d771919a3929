-- The bytes that the bits lie in are copied, and no others.
use Rattle.std.proofs.Common.{rules, ◌≡◌, ◌+◌, ◌-◌, ◌*◌, ◌/◌, ◌%◌, ◌≤◌, take, drop, ap, ◌∙◌, sym, arith}
use Rattle.vx_bits.specs.BitBuffer.{PlacedBits, bits_of}
use Rattle.vx_arrow.proofs.Copied.{bits_copied}
use Rattle.vx_arrow.proofs.copies.bits_in.Goals as goal
use Rattle.vx_bits.proofs.Results.{made}

pub returns : goal.returns
returns c =
    let o = c.args.offset in let n = c.args.len in let bytes = c.args.bytes.now in let last = c.div_ceil-last.result in
    let reaches : o + n ≤ 8 * last = search (rules, arith) in
    let copied : c.in_ok-from_vec.field-0 ≡ take (last - o / 8) (drop (o / 8) bytes) = search rules in
    ap (λ (b : PlacedBits). b.bits) (made _ _ _ (sym c.in-Ok.is ∙ c.try_new.ensures))
    ∙ ap (λ l. bits_of l (o % 8) n) copied
    ∙ bits_copied bytes o n last reaches
