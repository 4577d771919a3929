use Rattle.std.proofs.Common.{subst}
use Rattle.vx_bits.specs.BitBuffer.{IsLastSet, PlacedBits}
use Rattle.vx_lists.proofs.KeptLists.{last_is_rank, last_is_within}
use Rattle.vx_lists.proofs.filter.last_row.Goals as goal

pub returns-clause-rank : goal.returns-clause-rank
returns-clause-rank c = last_is_rank c.args.selection.now.bits.bits c.in-Some.row (subst (λ (b : PlacedBits). IsLastSet b.bits c.in-Some.row) c.bits.ensures c.in-Some.ensures)

pub returns-clause-within : goal.returns-clause-within
returns-clause-within c = last_is_within c.args.selection.now.bits.bits c.in-Some.row (subst (λ (b : PlacedBits). IsLastSet b.bits c.in-Some.row) c.bits.ensures c.in-Some.ensures)
