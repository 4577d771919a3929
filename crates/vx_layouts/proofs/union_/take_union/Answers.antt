-- The rows of a union at the picks are those that the indices name.
use Rattle.std.proofs.Common.{◌≡◌, length, ap, ◌∙◌}
use Rattle.vx_take.specs.Picks.{BoundedPicks}
use Rattle.vx_model.specs.Column.{Column}
use Rattle.vx_model.specs.Union.{union_column}
use Rattle.vx_pieces.specs.Indices.{index_picks, index_value}
use Rattle.vx_layouts.proofs.union_.take_union.Goals as goal

pub returns-clause-taken : goal.returns-clause-taken
returns-clause-taken c =
    let picks : c.in_ok-picks.picks.picks ≡ index_picks (index_value c.args.indices.now) = ap (λ (x : BoundedPicks). x.picks) c.in_ok-picks.ensures.picks in
    rw (← picks, ← c.nullability-nullability.ensures) c.in_ok-take_variants.ensures.taken

pub returns-clause-parts : goal.returns-clause-parts
returns-clause-parts c =
    let picks : c.in_ok-picks.picks.picks ≡ index_picks (index_value c.args.indices.now) = ap (λ (x : BoundedPicks). x.picks) c.in_ok-picks.ensures.picks in
    rw (← picks, ← c.nullability-nullability.ensures) c.in_ok-take_variants.ensures.parts

pub take_variants-requires-clause-bound : goal.take_variants-requires-clause-bound
take_variants-requires-clause-bound c =
    ap (λ (x : BoundedPicks). x.bound) c.in_ok-picks.ensures.picks ∙ c.len.ensures
    ∙ ap (λ (x : Column). length x.rows) (c.into_array-column.ensures ∙ ap union_column c.share.ensures)
