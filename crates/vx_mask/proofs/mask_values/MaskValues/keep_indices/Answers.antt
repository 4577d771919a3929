use Rattle.std.proofs.Common.{◌≡◌, List, ℕ, Option, IfSome, sym, subst, ◌∙◌}
use Rattle.vx_mask.specs.MaskValues.{PartialMask, AreSlicesOf, block_counts}
use Rattle.vx_mask.specs.Positions.{set_of}
use Rattle.vx_mask.proofs.Partial.{agreeing}
use Rattle.vx_mask.proofs.mask_values.MaskValues.keep_indices.Goals.{in-Some, in-None+in_ok-positions_of-in-None+in_ok-indices-in-None}
use Rattle.vx_mask.proofs.mask_values.MaskValues.keep_indices.Goals as goal

pub invariant_of-result : goal.invariant_of-result
invariant_of-result c =
    let m = c.self.inside in
    let h = c.self.invariant in
    let old : PartialMask = record { bits = m.bits; indices = m.indices; slices = m.slices; blocks = m.blocks } in
    let agree : c.match-self.indices ≡ set_of m.bits.bits = elim c.match-self.branch [
      | in-Some w ↦ w.indices-is ∙ w.share-indices.ensures ∙ subst (λ (o : Option (List ℕ)). IfSome o (λ is. is ≡ set_of m.bits.bits)) w.in-Some.is h.indices_agree
      | in-None+in_ok-positions_of-in-None+in_ok-indices-in-None w ↦ w.indices-is ∙ w.in_ok-indices-in-None.ensures ∙ w.in_ok-positions_of-in-None.ensures
    ] in
    agreeing old _ m.true_count h c.share.ensures
    agree
    (subst (λ (o : Option (List (ℕ × ℕ))). IfSome o (λ s. AreSlicesOf old s)) (sym c.shared.ensures) h.slices_agree)
    (subst (λ (o : Option (List ℕ)). IfSome o (λ bs. bs ≡ block_counts old)) (sym c.shared-2.ensures) h.blocks_agree)
