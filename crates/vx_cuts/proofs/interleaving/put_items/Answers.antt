-- One item more.
use Rattle.std.proofs.Common.{length, arith}
use Rattle.vx_cuts.specs.Interleaving.{item_at, lists_in}
use Rattle.vx_cuts.proofs.Filled.{filled_all, filled_more}
use Rattle.vx_cuts.proofs.interleaving.put_items.Goals as goal

pub loop-k-preserved : goal.loop-k-preserved
loop-k-preserved g c = filled_more (item_at c.args.fill (lists_in c.args.lists.now) c.args.parts.now c.args.rows.now) c.loop-k.dst c.loop-k.k _ c.args.fill (omega arith) c.item_in.ensures c.loop-k.invariant

pub returns : goal.returns
returns g c = filled_all (item_at c.args.fill (lists_in c.args.lists.now) c.args.parts.now c.args.rows.now) c.loop-k.dst (length c.args.parts.now) c.loop-k.k c.args.fill (omega arith) (omega arith) c.loop-k.invariant
