-- The bits of one bool at the picks.
use Rattle.std.proofs.Common.{rules, ◌≡◌, true, false, length, sym, ap, ◌∙◌, subst}
use Rattle.std.specs.Prelude.{replicate}
use Rattle.std.proofs.lemmas.Result.{IfOk-weaker}
use Rattle.vx_take.specs.Picks.{AreBelow}
use Rattle.vx_model.specs.Valid.{is_yes}
use Rattle.vx_model.proofs.LazyRows.{length-constant}
use Rattle.vx_model.proofs.ConstantRows.{set_at-picks, clear_at-picks}
use Rattle.vx_stored.proofs.constant_steps.constant_bits.Goals as goal

pub returns-then-is_set : goal.returns-then-is_set
returns-then-is_set c =
    let p = c.args.array.now in let picks = c.args.picks.now.picks in
    let below : AreBelow picks p.len = rw (← length-constant p, ← c.requires) (subst (AreBelow picks) c.bound.ensures.value c.bound.ensures.below) in
    let set : is_yes p.scalar.row ≡ true = ap (λ s. is_yes s.row) (sym c.scalar.ensures) ∙ sym c.is_set.ensures ∙ search rules in
    IfOk-weaker c.valid_bits.result _ _ (λ b h. ap (λ b. b.bits) h ∙ set_at-picks p.len p.scalar.row picks set below) c.valid_bits.ensures

pub returns : goal.returns
returns c =
    let p = c.args.array.now in let picks = c.args.picks.now.picks in
    let clear : is_yes p.scalar.row ≡ false = ap (λ s. is_yes s.row) (sym c.scalar.ensures) ∙ sym c.is_set.ensures ∙ search rules in
    let bits : c.append_n.new.self ≡ replicate (length picks) false = search rules in
    IfOk-weaker c.finish.result _ _ (λ b h. ap (λ b. b.bits) h ∙ bits ∙ clear_at-picks p.len p.scalar.row picks clear) c.finish.ensures
