-- One node more is like the first.
use Rattle.std.proofs.Common.{◌≡◌, ◌<◌, length, get_or, ap, sym, ◌∙◌, subst, inl, inr, arith}
use Rattle.std.proofs.lemmas.Bool.{cases_eq}
use Rattle.vx_arrow_image.specs.Image.{Part, part_of, parts_of}
use Rattle.vx_arrow_image.proofs.SoundNodes.{zero_node}
use Rattle.vx_arrow_interleave.specs.Sources.{IsLike, part_at}
use Rattle.vx_arrow_interleave.proofs.SpotLists.{part_at_node}
use Rattle.vx_arrow_interleave.proofs.sources.tested.Goals as goal

pub loop-s-preserved : goal.loop-s-preserved
loop-s-preserved c s h =
    let nodes = c.args.sources.now in
    let ps = parts_of nodes in
    elim (cases_eq s c.loop-s.s) as (λ _. IsLike (part_at ps 0) (part_at ps s)) [
      | inl here ↦
          let low : s < length nodes = omega (arith, c.loop-s-test.true) in
          let first = part_at_node nodes 0 zero_node (omega arith) in
          let own = part_at_node nodes s zero_node low in
          let own' : part_at ps s ≡ part_of (get_or nodes c.loop-s.s zero_node) = own ∙ ap (λ k. part_of (get_or nodes k zero_node)) here in
          subst (λ (p : Part). IsLike p (part_at ps s)) (sym first) (subst (λ (q : Part). IsLike (part_of (get_or nodes 0 zero_node)) q) (sym own') (c.in_ok-test_like.ensures))
      | inr other ↦ c.loop-s.invariant s (omega arith)
    ]
