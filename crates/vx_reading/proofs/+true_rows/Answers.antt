-- A mask of all rows, or of none.
use Rattle.std.proofs.Common.{sym, ap, ◌∙◌}
use Rattle.vx_mask.specs.Mask.{mask_bits}
use Rattle.vx_reading.proofs.TruthBits.{count-all, count-none}
use Rattle.vx_reading.proofs.+true_rows.Goals as goal

pub layouts::kept_true_rows-returns-in-AllTrue :
    goal.layouts::kept_true_rows-returns-in-AllTrue
layouts::kept_true_rows-returns-in-AllTrue t c =
    let p = c.args.array.now in
    c.true_rows.ensures ∙ count-all p c.in-AllTrue.field-0 _ c.mask.ensures.valid (sym (ap mask_bits c.mask.ensures.value) ∙ ap mask_bits c.in-AllTrue.is) (c.deref.ensures ∙ c.child-child.ensures.value)

pub layouts::kept_true_rows-returns-in-AllFalse :
    goal.layouts::kept_true_rows-returns-in-AllFalse
layouts::kept_true_rows-returns-in-AllFalse t c =
    count-none c.args.array.now c.in-AllFalse.field-0 (sym (ap mask_bits c.mask.ensures.value) ∙ ap mask_bits c.in-AllFalse.is)
