use Rattle.std.proofs.Common.{ℕ, List, ◌+◌, ◌^◌, ◌<◌, get_or, take, sym, subst, arith}
use Rattle.std.specs.List.{All}
use Rattle.std.proofs.lemmas.List.{take_all, take_more}
use Rattle.std.proofs.lemmas.List.Elements.{All-push}
use Rattle.rows_of_selections.proofs.numbers.are_below.Goals as goal

pub loop-n-preserved : goal.loop-n-preserved
loop-n-preserved c =
    let xs = c.args.values.now in
    let i = c.loop-n.n-index in
    let P : ℕ → Type 0 = λ n. n < 2 ^ 32 in
    let here : get_or xs i 0 < 2 ^ 32 = omega arith in
    subst (λ (l : List ℕ). All P l) (sym (take_more xs i 0 (omega arith))) (All-push P (take i xs) (get_or xs i 0) c.loop-n.invariant here)

pub returns : goal.returns
returns c =
    let xs = c.args.values.now in
    let P : ℕ → Type 0 = λ n. n < 2 ^ 32 in
    subst (λ (l : List ℕ). All P l) (take_all c.loop-n.n-index xs (omega arith)) c.loop-n.invariant
