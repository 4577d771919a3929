use Rattle.std.proofs.Common.{◌≡◌, ◌+◌, ◌∷◌, [], ◌++◌, length, take, drop, refl, sym, ap₂, subst, ◌∙◌, arith}
use Rattle.std.proofs.lemmas.List.{drop-set-lt, take_all, take_more, take_more_set}
use Rattle.vx_filter.proofs.Moves.{same_further}
use Rattle.vx_words.proofs.FilterFaults.{front_and_rest}
use Rattle.vx_words.proofs.widen.widen.Goals as goal

pub loop-k-init : goal.loop-k-init
loop-k-init c = record { front = refl; rest = refl }

pub loop-k-preserved : goal.loop-k-preserved
loop-k-preserved c =
    let v = c.loop-k.invariant in
    let k = c.loop-k.k in
    let dst = c.loop-k.dst in
    let src = c.args.src.now in
    record {
      front = take_more_set dst k _ (omega arith) ∙ ap₂ (λ l x. l ++ x ∷ []) v.front c.from.ensures ∙ sym (take_more src k 0 (omega arith));
      rest = drop-set-lt (k + 1) dst k _ (omega arith) ∙ same_further c.args.dst.now dst k (k + 1) (omega arith) v.rest;
    }

pub returns : goal.returns
returns c =
    let src = c.args.src.now in
    let old = c.args.dst.now in
    let dst = c.loop-k.dst in
    let v = c.loop-k.invariant in
    let all : c.loop-k.k ≡ length src = omega arith in
    front_and_rest (length src) dst _ _ (subst (λ n. take n dst ≡ take n src) all v.front ∙ take_all (length src) src (omega arith)) (subst (λ n. drop n dst ≡ drop n old) all v.rest)
