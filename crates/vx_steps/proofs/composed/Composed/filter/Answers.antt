-- All picks are kept, or none is.
use Rattle.std.proofs.Common.{◌≡◌, ◌∙◌, true, false, length, ap, sym}
use Rattle.std.specs.Prelude.{replicate}
use Rattle.std.specs.List.{items_where_true}
use Rattle.std.proofs.lemmas.List.{length-replicate}
use Rattle.vx_mask.specs.Mask.{mask_bits}
use Rattle.vx_model.proofs.Items.{items_where_true-all, items_where_true-none}
use Rattle.vx_steps.specs.Compose.{picks_in}
use Rattle.vx_steps.proofs.composed.Composed.filter.Goals as goal

pub returns-in-AllTrue-clause-picks : goal.returns-in-AllTrue-clause-picks
returns-in-AllTrue-clause-picks c =
    let n = c.in-AllTrue.field-0 in let picks = picks_in c.args.self in
    let is : mask_bits c.args.mask.now ≡ replicate n true = ap mask_bits c.in-AllTrue.is in
    items_where_true-all n picks (sym (length-replicate n true) ∙ ap length (sym is) ∙ c.requires)
    ∙ ap (λ b. items_where_true b picks) (sym is)

pub returns-in-AllFalse-clause-picks : goal.returns-in-AllFalse-clause-picks
returns-in-AllFalse-clause-picks c =
    let n = c.in-AllFalse.field-0 in let picks = picks_in c.args.self in
    let is : mask_bits c.args.mask.now ≡ replicate n false = ap mask_bits c.in-AllFalse.is in
    ap (λ p. p.picks) c.new.ensures ∙ items_where_true-none n picks ∙ ap (λ b. items_where_true b picks) (sym is)
