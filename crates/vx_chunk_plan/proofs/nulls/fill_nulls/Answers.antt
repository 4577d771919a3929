-- What is written, where no rule is broken.
use Rattle.vx_chunk_plan.proofs.Filling.{nulls_done}
use Rattle.vx_chunk_plan.proofs.nulls.fill_nulls.Goals as goal

pub returns-clause-done : goal.returns-clause-done
returns-clause-done c = nulls_done c.args.width c.args.valid.now c.args.count c.args.out.now c.clear.new.out c.clear.ensures
