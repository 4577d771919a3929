use Rattle.std.proofs.Common.{min, get_or, refl, ap, ◌∙◌, arith}
use Rattle.std.specs.List.{fold}
use Rattle.std.proofs.lemmas.List.{take_all}
use Rattle.vx_packed.proofs.Numbers.{least_from}
use Rattle.vx_packed.proofs.extremes.least_of.Goals as goal

pub returns : goal.returns
returns c =
    let xs = c.args.numbers.now in
    c.loop-n.invariant ∙ ap (fold min (get_or xs 0 0)) (take_all c.loop-n.n-index xs (omega arith)) ∙ least_from (get_or xs 0 0) xs refl
