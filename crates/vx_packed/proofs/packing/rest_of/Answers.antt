use Rattle.std.proofs.Common.{◌≡◌, ◌+◌, ◌-◌, ◌/◌, ◌^◌, ap, sym, ◌∙◌, arith}
use Rattle.std.proofs.lemmas.Nat.{pow-add}
use Rattle.std.proofs.Math.Nat.{div-div-eq-div-mul}
use Rattle.vx_packed.proofs.packing.rest_of.Goals as goal

pub returns : goal.returns
returns c =
    let k = c.args.bits - 1 in
    let sum : 1 + k ≡ c.args.bits = omega arith in
    div-div-eq-div-mul c.args.n (2 ^ 1) (2 ^ k) ∙ ap (λ m. c.args.n / m) (sym (pow-add 2 1 k) ∙ ap (λ j. 2 ^ j) sum)
