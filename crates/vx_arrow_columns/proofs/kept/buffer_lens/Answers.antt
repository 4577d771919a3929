-- One node more.
use Rattle.std.proofs.Common.{◌≡◌, ◌+◌, ◌<◌, ◌++◌, ◌∷◌, [], ℕ, List, ap, get_or, length, subst, sym, arith, rules, ◌∙◌}
use Rattle.vx_arrow_image.specs.Image.{part_of}
use Rattle.vx_arrow_image.proofs.SoundNodes.{zero_node}
use Rattle.vx_arrow_columns.proofs.Buffers.{LensTo, all_lens, first_lens, more_lens, passed_lens}
use Rattle.vx_arrow_columns.proofs.kept.buffer_lens.Goals as goal
use Rattle.vx_arrow_columns.proofs.kept.buffer_lens.Goals.{then-open-gt0, else-open-gt0+else-len-node+in_ok-push}

pub loop-i-init : goal.loop-i-init
loop-i-init c = first_lens (part_of c.args.node.now) c.args.behind.now _ c.new-lens.ensures.items

pub loop-i-preserved : goal.loop-i-preserved
loop-i-preserved c =
    let p = part_of c.args.node.now in
    let i = c.loop-i.i in
    let nodes = c.args.behind.now in
    let n = get_or nodes i zero_node in
    let new = c.if-open-gt0 in
    let low : i < length nodes = omega arith in
    elim new.branch [
      | then-open-gt0 w ↦
          subst (λ (l : List ℕ). LensTo p nodes (i + 1) new.open l) (sym (ap (λ v. v.items) w.lens-is))
          (passed_lens p nodes i c.loop-i.open new.open zero_node c.loop-i.lens.items low (omega arith) w.if-open-gt0.true (λ h. omega (arith, w.open-is, w.saturating_add-open.ensures)) (λ h. omega (arith, w.open-is, w.saturating_add-open.ensures)) c.loop-i.invariant)
      | else-open-gt0+else-len-node+in_ok-push w ↦
          let pushed : w.push.new.self.items ≡ c.loop-i.lens.items ++ n.len ∷ [] = search rules in
          let was : c.loop-i.open ≡ 0 = omega (arith, w.if-open-gt0.false) in
          subst (λ (m : ℕ). LensTo p nodes (i + 1) m new.lens.items) (sym w.open-is)
          (more_lens p nodes i zero_node c.loop-i.lens.items new.lens.items low (omega (arith, w.len.ensures, w.if-len-node.false)) (ap (λ v. v.items) w.lens-is ∙ pushed) (subst (λ (m : ℕ). LensTo p nodes i m c.loop-i.lens.items) was c.loop-i.invariant))
    ]

pub returns-clause-lens : goal.returns-clause-lens
returns-clause-lens c = all_lens (part_of c.args.node.now) c.args.behind.now c.loop-i.i c.loop-i.open c.loop-i.lens.items (omega arith) c.loop-i.invariant
