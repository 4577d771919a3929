-- One item more at the picks, and the rows that picks name.
use Rattle.std.proofs.Common.{◌≡◌, ℕ, ◌+◌, ◌<◌, List, [], ◌∷◌, ◌++◌, map, length, get_or, take, Option, None, Some, sym, ap₂, ◌∙◌, arith}
use Rattle.std.specs.Prelude.{IfSome}
use Rattle.std.specs.List.{All}
use Rattle.std.proofs.lemmas.List.{map_more}
use Rattle.vx_take.specs.Picks.{AreBelow}

-- a row below a bound has an offset behind it
pub next_row : (pick : Option ℕ) (bound n : ℕ) → IfSome pick (λ p. p < bound) → bound < n → IfSome pick (λ row. row + 1 < n)
next_row None bound n h l = tt
next_row (Some p) bound n h l = omega (arith, h, l)

pub next_rows : (picks : List (Option ℕ)) (bound n : ℕ) → AreBelow picks bound → bound < n → All (λ pick. IfSome pick (λ row. row + 1 < n)) picks
next_rows picks bound n below l k d h = next_row _ bound n (below k d h) l

pub one_more : {A X : Type 0} (f : A → X) (picks : List A) (i : ℕ) (d : A) (old new : List X) (item : X) → i < length picks → old ≡ map f (take i picks) → new ≡ old ++ item ∷ [] → item ≡ f (get_or picks i d) → new ≡ map f (take (i + 1) picks)
one_more f picks i d old new item h is more one =
    more ∙ ap₂ (λ l x. l ++ x ∷ []) is one ∙ sym (map_more f picks i d h)

pub ruleset picked_row = (next_row)
