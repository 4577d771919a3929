-- The offsets of three lists, the second of which is empty.
use Rattle.std.proofs.Common.{◌≡◌, ℕ, zero, suc, ◌+◌, ◌<◌, ◌≤◌, Bool, true, false, List, [], ◌∷◌, length, get_or, sym, subst, arith}
use Rattle.std.proofs.lemmas.List.Elements.{All-cons, All-nil}
use Rattle.vx_lists.specs.Lists.{AreOffsets, Covers, IsWithin}

abbrev pub three : List ℕ
three = 0 ∷ 2 ∷ 2 ∷ 5 ∷ []

pub are_three : AreOffsets three
are_three = record { some = omega arith; ascend = up }
  where
    up : (i d : ℕ) → i + 1 < length three → get_or three i d ≤ get_or three (i + 1) d
    up zero d h = omega arith
    up (suc zero) d h = omega arith
    up (suc (suc zero)) d h = omega arith
    up (suc (suc (suc i))) d h = absurd (omega arith)

pub covers_first : (bits : List Bool) → bits ≡ true ∷ false ∷ false ∷ [] → Covers (0, 5) three bits
covers_first bits e =
    subst (λ (b : List Bool). Covers (0, 5) three b) (sym e)
    (All-cons (IsWithin (0, 5)) (0, 2) [] (λ _. (omega arith, omega arith)) (All-nil (IsWithin (0, 5))))

pub covers_last : (bits : List Bool) → bits ≡ false ∷ false ∷ true ∷ [] → Covers (2, 5) three bits
covers_last bits e =
    subst (λ (b : List Bool). Covers (2, 5) three b) (sym e)
    (All-cons (IsWithin (2, 5)) (2, 5) [] (λ _. (omega arith, omega arith)) (All-nil (IsWithin (2, 5))))
