-- The constructor's answer.
use Rattle.std.proofs.Common.{sym, ◌∙◌}
use Rattle.vx_json.proofs.Made.{made, refused}
use Rattle.vx_document.proofs.policies.policy_with.Goals as goal

pub returns-in-Ok-clause-value : goal.returns-in-Ok-clause-value
returns-in-Ok-clause-value c = made (λ p. p) _ _ _ (sym c.try_new.ensures ∙ c.in-Ok.is)

pub returns-in-Err-clause-value : goal.returns-in-Err-clause-value
returns-in-Err-clause-value c = refused (λ p. p) _ _ _ (sym c.try_new.ensures ∙ c.in-Err.is)
