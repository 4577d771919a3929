-- What is filled from nothing, and to the end.
use Rattle.vx_chunk_plan.proofs.Filling.{all_done, none_done}
use Rattle.vx_chunk_plan.proofs.laws.filled.Goals as goal

pub returns-clause-none : goal.returns-clause-none
returns-clause-none c = none_done c.args.width c.args.chunk_len c.args.places.now c.args.valid.now c.args.out.now

pub returns-clause-all : goal.returns-clause-all
returns-clause-all c = all_done c.args.width c.args.chunk_len c.args.places.now c.args.valid.now c.args.out.now
