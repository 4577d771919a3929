use Rattle.std.proofs.Common.{◌≡◌, List, ℕ, Option, IfSome, sym, subst, ◌∙◌}
use Rattle.vx_mask.specs.MaskValues.{PartialMask, AreSlicesOf, block_counts}
use Rattle.vx_mask.specs.Positions.{set_of}
use Rattle.vx_mask.proofs.Partial.{agreeing, maximal_agree}
use Rattle.vx_mask.proofs.mask_values.MaskValues.keep_slices.Goals.{in-Some, in-None+in_ok-runs_of-in-None+in_ok-slices-in-None}
use Rattle.vx_mask.proofs.mask_values.MaskValues.keep_slices.Goals as goal

pub invariant_of-result : goal.invariant_of-result
invariant_of-result c =
    let m = c.self.inside in
    let h = c.self.invariant in
    let old : PartialMask = record { bits = m.bits; indices = m.indices; slices = m.slices; blocks = m.blocks } in
    let agree : AreSlicesOf old c.match-self.slices = elim c.match-self.branch [
      | in-Some w ↦ subst (λ (s : List (ℕ × ℕ)). AreSlicesOf old s) (sym (w.slices-is ∙ w.share-slices.ensures)) (subst (λ (o : Option (List (ℕ × ℕ))). IfSome o (λ s. AreSlicesOf old s)) w.in-Some.is h.slices_agree)
      | in-None+in_ok-runs_of-in-None+in_ok-slices-in-None w ↦ subst (λ (s : List (ℕ × ℕ)). AreSlicesOf old s) (sym (w.slices-is ∙ w.in_ok-slices-in-None.ensures ∙ w.in_ok-runs_of-in-None.ensures)) (maximal_agree old m.true_count h)
    ] in
    agreeing old _ m.true_count h c.share.ensures
    (subst (λ (o : Option (List ℕ)). IfSome o (λ is. is ≡ set_of m.bits.bits)) (sym c.shared.ensures) h.indices_agree)
    agree
    (subst (λ (o : Option (List ℕ)). IfSome o (λ bs. bs ≡ block_counts old)) (sym c.shared-2.ensures) h.blocks_agree)
