-- By the column's mask.
use Rattle.vx_paging.proofs.Needing.{part_of}
use Rattle.vx_paging.proofs.needed.Needed.before_column.Goals as goal
use Rattle.vx_lemmas.proofs.Results.{if_ok}

pub returns : goal.returns
returns c = if_ok c.before_mask.result c.before_mask.ensures (λ n p. part_of c.in_ok-mask.ensures.bits p)
