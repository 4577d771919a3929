-- One place more.
use Rattle.std.proofs.Common.{◌≡◌, ℕ, List, [], ◌∷◌, ◌++◌, get_or, length, ap, ap₂, sym, ◌∙◌, refl, arith}
use Rattle.std.specs.List.{range_with_len}
use Rattle.std.proofs.lemmas.List.{take_all, take_more}
use Rattle.vx_runs.proofs.RunPlaces.{one_run, range_more}
use Rattle.vx_runs.proofs.runs.run_of.Goals as goal

pub loop-k-preserved : goal.loop-k-preserved
loop-k-preserved c =
    take_more c.args.places.now c.loop-k.k 0 c.loop-k-test.true
    ∙ ap₂ (λ (l : List ℕ) (x : ℕ). l ++ x ∷ []) c.loop-k.invariant (omega arith)
    ∙ sym (range_more (get_or c.args.places.now 0 0) c.loop-k.k _ refl)

pub returns : goal.returns
returns c =
    let done : length c.args.places.now ≡ c.loop-k.k = omega arith in
    one_run _ ∙ ap (range_with_len (get_or c.args.places.now 0 0)) done ∙ sym c.loop-k.invariant ∙ take_all c.loop-k.k c.args.places.now (omega arith)
