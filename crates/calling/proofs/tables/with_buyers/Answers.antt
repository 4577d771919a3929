-- A joined table has a row a pair.
use Rattle.vortex_select.proofs.Results.{if_ok}
use Rattle.calling.proofs.tables.with_buyers.Goals as goal

pub returns : goal.returns
returns c = if_ok c.join.result c.join.ensures.rows (λ t h. h.len)
