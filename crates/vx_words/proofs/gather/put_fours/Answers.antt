use Rattle.std.proofs.Common.{◌≡◌, ◌+◌, ◌*◌, inl, inr, refl, subst, ◌∙◌, arith}
use Rattle.std.proofs.lemmas.Bool.{cases_lt}
use Rattle.vx_filter.proofs.Moves.{same_further}
use Rattle.vx_words.specs.Takes.{IsFront}
use Rattle.vx_words.proofs.gather.put_fours.Goals as goal

pub loop-four-preserved : goal.loop-four-preserved
loop-four-preserved g c =
    let v = c.loop-four.invariant in
    let k = 4 * c.loop-four.four in
    let step = c.if-not-put_four.ensures in
    let old = c.args.dst.now in
    let next : k + 4 ≡ 4 * (c.loop-four.four + 1) = omega arith in
    subst (λ n. IsFront c.args.fill c.args.src.now c.args.indices.now c.args.valid.now old c.put_four.new.dst n) next (record {
      within = omega arith;
      inside = λ j h. elim (cases_lt j k) [ inl below ↦ v.inside j below | inr from ↦ step.inside refl j from h ];
      items = step.items refl v.items;
      rest = step.rest ∙ same_further old c.loop-four.dst k (k + 4) (omega arith) v.rest;
    })
