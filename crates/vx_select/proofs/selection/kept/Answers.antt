-- A mask of all rows keeps all.
use Rattle.std.proofs.Common.{ap}
use Rattle.vx_mask.specs.Mask.{mask_bits}
use Rattle.vx_select.proofs.Parts.{kept_whole}
use Rattle.vx_select.proofs.selection.kept.Goals as goal

pub returns-in-AllTrue-clause-step : goal.returns-in-AllTrue-clause-step
returns-in-AllTrue-clause-step c =
    kept_whole c.args.part c.in-AllTrue.field-0 (mask_bits c.args.mask.now) (ap mask_bits c.in-AllTrue.is) c.requires
