-- One part more.
use Rattle.std.proofs.Common.{◌+◌, length, slice_index, ap, ◌∙◌, arith}
use Rattle.vx_bits.specs.BitBuffer.{true_count_of}
use Rattle.vx_words.specs.Bits.{bits_at}
use Rattle.vx_cuts.specs.Masks.{kept_in}
use Rattle.vx_cuts.proofs.BoundLists.{bounds_are, bound_below, bound_next}
use Rattle.vx_cuts.proofs.Filled.{filled_all, filled_more}
use Rattle.vx_cuts.proofs.masks.put_kept.Goals as goal

pub count_bits-requires : goal.count_bits-requires
count_bits-requires c =
    let ns = c.args.lengths.now in
    let k = c.loop-k.k in
    omega (arith, c.loop-k.invariant.begins, c.requires.held, bound_next ns k (omega arith), bound_below ns (k + 1) (omega arith))

pub overflow_add-first : goal.overflow_add-first
overflow_add-first c =
    let ns = c.args.lengths.now in
    let k = c.loop-k.k in
    omega (arith, c.loop-k.invariant.begins, c.requires.counted, bound_next ns k (omega arith), bound_below ns (k + 1) (omega arith))

pub loop-k-init : goal.loop-k-init
loop-k-init c = record {
  so = λ j h. absurd (omega arith);
  begins = omega (arith, (bounds_are c.args.lengths.now).starts);
}

pub loop-k-preserved : goal.loop-k-preserved
loop-k-preserved c =
    let ns = c.args.lengths.now in
    let k = c.loop-k.k in
    let v = c.loop-k.invariant in
    record {
      so = filled_more (kept_in c.args.words.now c.args.at ns) c.loop-k.left k _ 0 (omega arith)
          (c.count_bits.ensures ∙ ap (λ n. true_count_of (bits_at c.args.words.now n (slice_index ns k))) v.begins) v.so;
      begins = omega (arith, v.begins, bound_next ns k (omega arith));
    }

pub returns : goal.returns
returns c = filled_all (kept_in c.args.words.now c.args.at c.args.lengths.now) c.loop-k.left (length c.args.lengths.now) c.loop-k.k 0 (omega arith) (omega arith) c.loop-k.invariant.so
