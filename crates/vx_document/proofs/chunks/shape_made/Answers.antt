-- The constructor's answer.
use Rattle.std.proofs.Common.{sym, ap, ◌∙◌}
use Rattle.vx_json.proofs.Made.{made, refused}
use Rattle.vx_document.specs.Chunks.{shape_made}
use Rattle.vx_document.proofs.chunks.shape_made.Goals as goal
use Rattle.vx_bits.proofs.Results.{made as made_parts}

pub returns-in-Ok-clause-shape : goal.returns-in-Ok-clause-shape
unfolding shape_made
returns-in-Ok-clause-shape c = made (λ s. s) _ _ _ (sym c.try_new.ensures ∙ c.in-Ok.is)

pub returns-in-Ok-clause-dtype : goal.returns-in-Ok-clause-dtype
returns-in-Ok-clause-dtype c =
    ap (λ s. s.dtype) (made_parts _ _ _ (sym c.in-Ok.is ∙ c.try_new.ensures))

pub returns-in-Err-clause-shape : goal.returns-in-Err-clause-shape
unfolding shape_made
returns-in-Err-clause-shape c = refused (λ s. s) _ _ _ (sym c.try_new.ensures ∙ c.in-Err.is)
