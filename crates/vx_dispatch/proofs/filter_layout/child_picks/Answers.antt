-- A rank that is there names a position.
use Rattle.vx_mask.specs.Mask.{mask_bits}
use Rattle.vx_model.proofs.FilterSteps.{there-translated}
use Rattle.vx_dispatch.proofs.filter_layout.child_picks.Goals as goal
use Rattle.vx_lemmas.proofs.Results.{if_ok}

pub returns-clause-there : goal.returns-clause-there
returns-clause-there c = λ h.
    if_ok c.translate_ranks.result c.translate_ranks.ensures.picks (λ p e. rw e (there-translated (mask_bits c.mask.result.now) c.args.picks.now.picks h))
