use Rattle.vx_lists.proofs.Marks.{run_put}
use Rattle.vx_lists.proofs.element_mask.append_run.Goals as goal

pub returns-then-clear-set-le64 : goal.returns-then-clear-set-le64
returns-then-clear-set-le64 c = rw (run_put c.args.bits.now c.args.clear c.args.set c.if-clear-set-le64.true) at c.append_word.ensures.ok
