-- A block more, and what is left of one.
use Rattle.std.proofs.Common.{◌≡◌, ◌∙◌, ◌+◌, ◌*◌, ◌%◌, ◌++◌, ℕ, List, ap, replicate, arith}
use Rattle.std.proofs.lemmas.List.{append_assoc, replicate-append-replicate, take-replicate}
use Rattle.vx_bits.proofs.bit_builder.put_alike.Goals as goal

-- so many more bytes behind a list that ends with some
more : (front before after : List ℕ) (byte m n : ℕ) → before ≡ front ++ replicate m byte → after ≡ before ++ replicate n byte → after ≡ front ++ replicate (m + n) byte
more front before after byte m n is added =
    added ∙ ap (λ l. l ++ replicate n byte) is ∙ append_assoc front (replicate m byte) (replicate n byte)
    ∙ ap (λ l. front ++ l) (replicate-append-replicate m n byte)

pub loop-k-preserved : goal.loop-k-preserved
loop-k-preserved c =
    let v = c.loop-k.invariant in
    record {
      items = more c.args.bytes.now.items c.loop-k.bytes.items c.extend_from_slice.new.self.items c.args.byte (256 * c.loop-k.k) 256 v.items c.in-Ok.ensures.items ∙ ap (λ n. c.args.bytes.now.items ++ replicate n c.args.byte) (omega arith);
      len = omega (arith, c.extend_from_slice.ensures.len, c.in-Ok.ensures.len, v.len);
      room = omega (arith, c.extend_from_slice.ensures.capacity, c.in-Ok.ensures.capacity, v.room);
    }

pub returns-clause-items : goal.returns-clause-items
returns-clause-items c =
    let v = c.loop-k.invariant in
    let left : c.extend_from_slice-2.new.self.items ≡ c.loop-k.bytes.items ++ replicate (c.args.n % 256) c.args.byte =
    c.in-Ok-extend_from_slice.ensures.items ∙ ap (λ l. c.loop-k.bytes.items ++ l) (take-replicate (c.args.n % 256) 256 c.args.byte (omega arith)) in
    more c.args.bytes.now.items c.loop-k.bytes.items c.extend_from_slice-2.new.self.items c.args.byte (256 * c.loop-k.k) (c.args.n % 256) v.items left
    ∙ ap (λ n. c.args.bytes.now.items ++ replicate n c.args.byte) (omega (arith, c.loop-k-test.false, c.loop-k.auto.k-end))
