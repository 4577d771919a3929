-- One part more.
use Rattle.std.proofs.Common.{length, arith}
use Rattle.vx_cuts.specs.Slices.{row_in}
use Rattle.vx_cuts.proofs.BoundLists.{bound_next, bounds_are}
use Rattle.vx_cuts.proofs.Filled.{filled_all, filled_more}
use Rattle.vx_cuts.proofs.slices.put_rows.Goals as goal

pub loop-k-init : goal.loop-k-init
loop-k-init c =
    record { so = λ j h. absurd (omega arith); past = omega (arith, (bounds_are c.args.lengths.now).starts) }

pub loop-k-preserved : goal.loop-k-preserved
loop-k-preserved c =
    let ns = c.args.lengths.now in
    let k = c.loop-k.k in
    let v = c.loop-k.invariant in
    record {
      so = filled_more (row_in ns c.args.row) c.loop-k.dst k _ 0 (omega arith) (omega (arith, v.past)) v.so;
      past = omega (arith, v.past, bound_next ns k (omega arith));
    }

pub returns : goal.returns
returns c = filled_all (row_in c.args.lengths.now c.args.row) c.loop-k.dst (length c.args.lengths.now) c.loop-k.k 0 (omega arith) (omega arith) c.loop-k.invariant.so
