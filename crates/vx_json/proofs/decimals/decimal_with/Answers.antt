-- The constructor's answer.
use Rattle.std.proofs.Common.{sym, ◌∙◌}
use Rattle.std.proofs.lemmas.Int.{to_z-of_z}
use Rattle.vx_json.specs.Decimals.{decimal_with}
use Rattle.vx_json.proofs.Made.{made, refused}
use Rattle.vx_json.proofs.decimals.decimal_with.Goals as goal

pub returns-in-Ok-clause-value : goal.returns-in-Ok-clause-value
unfolding decimal_with
returns-in-Ok-clause-value c =
    let fits = c.ranges.scale in
    let made_of = simp to_z-of_z at c.try_new.ensures in
    made (λ d. d) _ _ _ (sym made_of ∙ c.in-Ok.is)

pub returns-in-Err-clause-value : goal.returns-in-Err-clause-value
unfolding decimal_with
returns-in-Err-clause-value c =
    let fits = c.ranges.scale in
    let made_of = simp to_z-of_z at c.try_new.ensures in
    refused (λ d. d) _ _ _ (sym made_of ∙ c.in-Err.is)
