-- A take that leaves no nulls.
use Rattle.vx_pieces.specs.Indices.{index_nullability, index_picks, index_value}
use Rattle.vx_join.proofs.Tied.{plain_take}
use Rattle.vx_join.proofs.joining.rows_at.Goals as goal
use Rattle.vx_lemmas.proofs.Results.{if_ok}

pub returns : goal.returns
returns c =
    let v = index_value c.in_ok-indices.indices in
    if_ok c.take.result c.take.ensures (λ p taken.
    plain_take c.args.table.now p (index_nullability v) (index_picks v) c.args.picks.now.picks c.in_ok-indices.ensures.nullability c.in_ok-indices.ensures.picks taken)
