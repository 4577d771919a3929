-- One number after another is one of the type.
use Rattle.std.proofs.Common.{ℕ, ◌+◌, ◌*◌, ◌^◌, ◌<◌, List, length, get_or, take, refl, sym, subst}
use Rattle.std.proofs.lemmas.List.{take_all, take_more}
use Rattle.std.proofs.lemmas.List.Elements.{All-push}
use Rattle.std.specs.List.{All}
use Rattle.vx_types.specs.PType.{width}
use Rattle.filing.proofs.numbers.all_fit.Goals as goal

All-more : (P : ℕ → Type 0) (xs : List ℕ) (i : ℕ) → i < length xs → All P (take i xs) → P (get_or xs i 0) → All P (take (i + 1) xs)
All-more P xs i h all p = subst (All P) (sym (take_more xs i 0 h)) (All-push P (take i xs) (get_or xs i 0) all p)

pub loop-number-preserved : goal.loop-number-preserved
loop-number-preserved c =
    let P : ℕ → Type 0 = λ n. n < 2 ^ (8 * width c.args.ptype) in
    All-more P c.args.numbers.now c.loop-number.number-index c.loop-number-test.true c.loop-number.invariant (c.if-not-fits.ensures refl)

pub returns : goal.returns
returns c = λ _.
    let P : ℕ → Type 0 = λ n. n < 2 ^ (8 * width c.args.ptype) in
    subst (All P) (take_all c.loop-number.number-index c.args.numbers.now c.loop-number-test.false) c.loop-number.invariant
