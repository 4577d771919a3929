use Rattle.std.proofs.Common.{◌≡◌, ℕ, ◌+◌, ◌-◌, ◌%◌, ◌^◌, ◌<◌, refl, arith}
use Rattle.std.proofs.lemmas.Nat.{le_or_l, le_or_r}
use Rattle.vx_words.proofs.take.sign_of.Goals as goal

-- neither the distance to the last number below the bound nor the index has its highest bit set
below : (bound index far : ℕ) → bound < 2 ^ 64 → index < 2 ^ 64 → far ≡ ((bound + (2 ^ 64 - 1)) % 2 ^ 64 + (2 ^ 64 - index)) % 2 ^ 64 → far < 2 ^ 63 → index < 2 ^ 63 → index < bound
below bound index far hb hi e h k = omega arith

pub returns : goal.returns
returns c =
    let bound = c.args.bound in
    let index = c.args.index in
    let far = ((bound + (2 ^ 64 - 1)) % 2 ^ 64 + (2 ^ 64 - index)) % 2 ^ 64 in
    λ h. below bound index far (omega arith) (omega arith) refl (omega (arith, le_or_l far index, h)) (omega (arith, le_or_r far index, h))
