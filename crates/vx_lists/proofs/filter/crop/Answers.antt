use Rattle.vx_lists.proofs.KeptLists.{ranges_at}
use Rattle.vx_lists.proofs.filter.crop.Goals as goal

pub leaves_out-requires-clause-ordered : goal.leaves_out-requires-clause-ordered
leaves_out-requires-clause-ordered c = (ranges_at c.args.offsets.now c.args.selection.now.bits.bits c.rank-first.result c.last_row-last.result c.len.result c.true_count.result c.requires.offsets c.requires.counted c.true_count.ensures.count c.true_count.ensures.some c.rank-first.ensures.rank c.last_row-last.ensures.rank c.len.ensures).part.ordered

pub leaves_out-requires-clause-low : goal.leaves_out-requires-clause-low
leaves_out-requires-clause-low c = (ranges_at c.args.offsets.now c.args.selection.now.bits.bits c.rank-first.result c.last_row-last.result c.len.result c.true_count.result c.requires.offsets c.requires.counted c.true_count.ensures.count c.true_count.ensures.some c.rank-first.ensures.rank c.last_row-last.ensures.rank c.len.ensures).from

pub leaves_out-requires-clause-high : goal.leaves_out-requires-clause-high
leaves_out-requires-clause-high c = (ranges_at c.args.offsets.now c.args.selection.now.bits.bits c.rank-first.result c.last_row-last.result c.len.result c.true_count.result c.requires.offsets c.requires.counted c.true_count.ensures.count c.true_count.ensures.some c.rank-first.ensures.rank c.last_row-last.ensures.rank c.len.ensures).to

pub returns-then-leaves_out-clause-range : goal.returns-then-leaves_out-clause-range
returns-then-leaves_out-clause-range c = (ranges_at c.args.offsets.now c.args.selection.now.bits.bits c.rank-first.result c.last_row-last.result c.len.result c.true_count.result c.requires.offsets c.requires.counted c.true_count.ensures.count c.true_count.ensures.some c.rank-first.ensures.rank c.last_row-last.ensures.rank c.len.ensures).part

pub returns-else-leaves_out-clause-range : goal.returns-else-leaves_out-clause-range
returns-else-leaves_out-clause-range c = (ranges_at c.args.offsets.now c.args.selection.now.bits.bits c.rank-first.result c.last_row-last.result c.len.result c.true_count.result c.requires.offsets c.requires.counted c.true_count.ensures.count c.true_count.ensures.some c.rank-first.ensures.rank c.last_row-last.ensures.rank c.len.ensures).whole
