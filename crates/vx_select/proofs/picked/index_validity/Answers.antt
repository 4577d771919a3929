-- Where no pick is a null, each is there.
use Rattle.vx_select.proofs.PickIndices.{all_there}
use Rattle.vx_select.proofs.picked.index_validity.Goals as goal

pub returns-in-NonNullable-clause-present : goal.returns-in-NonNullable-clause-present
returns-in-NonNullable-clause-present c = all_there c.args.picks.now.picks (c.requires c.in-NonNullable.is)
