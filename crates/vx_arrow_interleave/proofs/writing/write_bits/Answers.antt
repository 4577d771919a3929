-- One span more.
use Rattle.std.proofs.Common.{ℕ, ◌+◌, ◌<◌, get_or, length, ap, sym, refl, arith}
use Rattle.vx_arrow_image.specs.Image.{Part, part_of, parts_of}
use Rattle.vx_arrow_interleave.specs.Bytes.{bit_by, bit_in}
use Rattle.vx_arrow_interleave.proofs.BitRuns.{all_rows, as_rows, more_rows, no_rows, same_rows}
use Rattle.vx_arrow_interleave.proofs.SpotLists.{few_rows, is_among, no_node, no_span, part_at_node, parts_len, spots_within}
use Rattle.vx_arrow_interleave.proofs.writing.write_bits.Goals as goal
use Rattle.vx_arrow_interleave.proofs.writing.write_bits.Goals.{then-span-ne0, else-span-ne0}

pub loop-k-init : goal.loop-k-init
loop-k-init c = no_rows _ _ _ c.clear.ensures.clear

pub offset_bounds-sources-span : goal.offset_bounds-sources-span
offset_bounds-sources-span c =
    let among = is_among (parts_of c.args.sources.now) c.args.places.now c.loop-k.k _ c.loop-k-test.true refl (omega (arith, c.if-span-ne0.true)) c.requires.places in
    omega (arith, among.source, parts_len c.args.sources.now)

pub bounds-sources-span : goal.bounds-sources-span
bounds-sources-span c =
    let among = is_among (parts_of c.args.sources.now) c.args.places.now c.loop-k.k _ c.loop-k-test.true refl (omega (arith, c.if-span-ne0.true)) c.requires.places in
    omega (arith, among.source, parts_len c.args.sources.now)

pub put_bits-requires-clause-few : goal.put_bits-requires-clause-few
put_bits-requires-clause-few c =
    let ps = parts_of c.args.sources.now in
    let among = is_among ps c.args.places.now c.loop-k.k _ c.loop-k-test.true refl (omega (arith, c.if-span-ne0.true)) c.requires.places in
    omega (arith, among.below, few_rows ps _ c.requires.alike among.source)

pub put_bits-requires-clause-small : goal.put_bits-requires-clause-small
put_bits-requires-clause-small c = omega (arith, spots_within c.args.places.now c.loop-k.k _ c.loop-k-test.true refl, c.loop-k.invariant.at_is, c.requires.few)

pub put_bits-requires-clause-room : goal.put_bits-requires-clause-room
put_bits-requires-clause-room c = omega (arith, spots_within c.args.places.now c.loop-k.k _ c.loop-k-test.true refl, c.loop-k.invariant.at_is, c.requires.room, c.loop-k.auto.out)

pub overflow_add-at : goal.overflow_add-at
overflow_add-at c = omega (arith, spots_within c.args.places.now c.loop-k.k _ c.loop-k-test.true refl, c.loop-k.invariant.at_is, c.requires.few)

pub loop-k-preserved : goal.loop-k-preserved
loop-k-preserved c =
    let nodes = c.args.sources.now in
    let ps = parts_of nodes in
    let ss = c.args.places.now in
    let k = c.loop-k.k in
    let r = get_or ss k no_span in
    let f = bit_in c.args.of ps in
    elim c.if-span-ne0.branch [
      | then-span-ne0 w ↦
          let among = is_among ps ss k r c.loop-k-test.true refl (omega (arith, w.if-span-ne0.true)) c.requires.places in
          let there : r.source < length nodes = omega (arith, among.source, parts_len nodes) in
          let own = w.put_bits.ensures in
          as_rows f ss (k + 1) _ _ _ _ w.at-is w.out-is
          (more_rows f (λ (i : ℕ). bit_by c.args.of (part_of (get_or nodes r.source no_node)) (r.start + i)) ss k c.loop-k.at r c.loop-k.out w.put_bits.new.out c.loop-k-test.true refl
          (record { bits = own.bits; before = own.before; behind = own.behind })
          (λ i. ap (λ (p : Part). bit_by c.args.of p (r.start + i)) (sym (part_at_node nodes r.source no_node there)))
          c.loop-k.invariant)
      | else-span-ne0 w ↦
          as_rows f ss (k + 1) _ _ _ _ w.at-is w.out-is (same_rows f ss k c.loop-k.at r c.loop-k.out c.loop-k-test.true refl (omega (arith, w.if-span-ne0.false)) c.loop-k.invariant)
    ]

pub returns : goal.returns
returns c = all_rows _ c.args.places.now c.loop-k.k c.loop-k.at _ (omega arith) c.loop-k.invariant
