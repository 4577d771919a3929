use Rattle.std.proofs.Common.{ℕ, List, ◌+◌, ◌*◌, ◌^◌, ◌<◌, get_or, take, sym, subst, arith}
use Rattle.std.specs.List.{All}
use Rattle.std.proofs.lemmas.List.{take_all, take_more}
use Rattle.std.proofs.lemmas.List.Elements.{All-push}
use Rattle.std.proofs.lemmas.Nat.{pow_pos}
use Rattle.vx_packed.proofs.Rules.{most_is, small_width}
use Rattle.rows_of_bytes.proofs.packed.numbers.are_below.Goals as goal

pub loop-n-preserved : goal.loop-n-preserved
loop-n-preserved c =
    let xs = c.args.numbers.now in
    let i = c.loop-n.n-index in
    let P : ℕ → Type 0 = λ n. n < 2 ^ (8 * c.args.width) in
    let most = most_is c.args.width (small_width c.args.width c.requires).most in
    let here : get_or xs i 0 < 2 ^ (8 * c.args.width) = omega (arith, most, pow_pos (8 * c.args.width)) in
    subst (λ (l : List ℕ). All P l) (sym (take_more xs i 0 (omega arith))) (All-push P (take i xs) (get_or xs i 0) c.loop-n.invariant here)

pub returns : goal.returns
returns c =
    let xs = c.args.numbers.now in
    let P : ℕ → Type 0 = λ n. n < 2 ^ (8 * c.args.width) in
    subst (λ (l : List ℕ). All P l) (take_all c.loop-n.n-index xs (omega arith)) c.loop-n.invariant
