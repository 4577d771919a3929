-- The numbers of the column are the positions.
use Rattle.std.proofs.Common.{length, sym, ap, subst, ◌∙◌}
use Rattle.std.proofs.lemmas.List.{length-map}
use Rattle.vx_model.specs.Column.{Column}
use Rattle.vx_pieces.specs.Indices.{by_column}
use Rattle.vx_build.specs.Positions.{NamePositions}
use Rattle.vx_build.proofs.Parts.{named}
use Rattle.vx_build.proofs.step.indices.Goals as goal
use Rattle.vx_bits.proofs.Results.{made}

pub returns : goal.returns
returns c =
    let n = c.in_ok-nullable_numbers in
    subst (λ (k : Column). NamePositions c.args.positions.now (by_column k))
    (sym (c.of.ensures ∙ c.in_ok-column.ensures))
    (named n.field-0 c.args.positions.now n.ensures.dtype (ap length n.ensures.rows ∙ length-map c.args.positions.now _) n.ensures.numbers)
