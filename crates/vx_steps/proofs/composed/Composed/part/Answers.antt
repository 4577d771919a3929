-- One pick more.
use Rattle.std.proofs.Common.{rules, ◌≡◌, ◌++◌, [], ◌∷◌, None, ap, ◌∙◌, sym, arith}
use Rattle.std.specs.Prelude.{slice_range}
use Rattle.vx_steps.specs.Compose.{picks_in}
use Rattle.vx_steps.proofs.composed.Composed.part.Goals as goal
use Rattle.vx_lemmas.proofs.Lists.{slice-more}

pub loop-i-preserved : goal.loop-i-preserved
loop-i-preserved c =
    let picks = picks_in c.args.self.now in let v = c.loop-i.invariant in
    let more : c.push.new.self ≡ record c.loop-i.part { picks = c.loop-i.part.picks ++ c.get.result ∷ [] } = search rules in
    record {
      picks = ap (λ p. p.picks) more ∙ ap (λ l. l ++ c.get.result ∷ []) v.picks
          ∙ ap (λ x. slice_range picks c.args.start c.loop-i.i ++ x ∷ []) c.get.ensures.value
          ∙ sym (slice-more picks c.args.start c.loop-i.i None c.loop-i.auto.i (omega (arith, c.requires.within)));
      bound = ap (λ p. p.bound) more ∙ v.bound;
    }
