-- One bound more.
use Rattle.std.proofs.Common.{◌+◌, slice_index, sym, arith}
use Rattle.std.proofs.lemmas.List.{ext_get_or, length-set}
use Rattle.vx_cuts.specs.Bounds.{bounds_of}
use Rattle.vx_cuts.proofs.BoundLists.{bounds_are, bound_below, bound_next, length-bounds}
use Rattle.vx_cuts.proofs.Filled.{filled_more}
use Rattle.vx_cuts.proofs.listed.put_bounds.Goals as goal

pub overflow_add-end : goal.overflow_add-end
overflow_add-end c =
    let ns = c.args.lengths.now in
    let k = c.loop-k.k in
    omega (arith, c.loop-k.invariant.ends, bound_next ns k (omega arith), bound_below ns (k + 1) (omega arith), c.requires.counted)

pub loop-k-init : goal.loop-k-init
loop-k-init c =
    let ns = c.args.lengths.now in
    let first = (bounds_are ns).starts in
    record {
      so = filled_more (λ j. slice_index (bounds_of ns) j) c.args.bounds.now 0 0 0 (omega (arith, c.requires.room)) (sym first) (λ j h. absurd (omega arith));
      ends = sym first;
    }

pub loop-k-preserved : goal.loop-k-preserved
loop-k-preserved c =
    let ns = c.args.lengths.now in
    let k = c.loop-k.k in
    let v = c.loop-k.invariant in
    let next = bound_next ns k (omega arith) in
    record {
      so = filled_more (λ j. slice_index (bounds_of ns) j) c.loop-k.bounds (k + 1) _ 0 (omega (arith, length-set c.args.bounds.now 0 0, c.requires.room)) (omega (arith, next, v.ends)) v.so;
      ends = omega (arith, next, v.ends);
    }

pub returns : goal.returns
returns c =
    let ns = c.args.lengths.now in
    let long = length-bounds 0 ns in
    ext_get_or 0 c.loop-k.bounds (bounds_of ns) (omega (arith, long, length-set c.args.bounds.now 0 0, c.requires.room)) (λ j h. c.loop-k.invariant.so j (omega (arith, length-set c.args.bounds.now 0 0, c.requires.room)))
