-- A validity that says the same fits the same texts.
use Rattle.std.proofs.Common.{rules, sym, ap, ◌∙◌}
use Rattle.vx_model.specs.Valid.{is_fitting, nullability_by}
use Rattle.vx_model.proofs.Steps.{fitting-same}
use Rattle.vx_model.proofs.Texts.{fits-varbin, items-varbin}
use Rattle.vx_column.specs.Validity.{valid_of}
use Rattle.vx_stored.proofs.stored.with_validity.Goals as goal

pub with_validity-requires : goal.with_validity-requires
with_validity-requires c =
    let p = c.in-Texts.array.now in let w = valid_of c.args.validity in
    ap (is_fitting w) (sym (items-varbin p)) ∙ fitting-same p.valid w (nullability_by p.valid) _ (fits-varbin p (search rules)) (search rules)
