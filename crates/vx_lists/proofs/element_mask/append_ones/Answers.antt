use Rattle.vx_lists.proofs.Marks.{ones_put}
use Rattle.vx_lists.proofs.element_mask.append_ones.Goals as goal

pub returns-then-n-le64 : goal.returns-then-n-le64
returns-then-n-le64 c = rw (ones_put c.args.bits.now c.args.n c.if-n-le64.true) at c.append_word.ensures.ok
