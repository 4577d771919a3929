-- The first position in place of each null.
use Rattle.std.proofs.Common.{◌≡◌, ℕ, ◌+◌, ◌<◌, ◌≤◌, List, [], ◌∷◌, ◌++◌, length, take, get_or, Option, None, Some}
use Rattle.std.proofs.lemmas.List.{map_more, take_all}
use Rattle.vx_model.specs.Columns.{firsts_for_nulls, or_first}

pub firsts_more : (picks : List (Option ℕ)) (k : ℕ) → k < length picks → firsts_for_nulls (take (k + 1) picks) ≡ firsts_for_nulls (take k picks) ++ Some (or_first (get_or picks k None)) ∷ []
firsts_more picks k h = map_more (λ (pick : Option ℕ). Some (or_first pick)) picks k None h

pub firsts_all : (picks : List (Option ℕ)) (k : ℕ) → length picks ≤ k → take k picks ≡ picks
firsts_all picks k h = take_all k picks h

pub ruleset firsts = (firsts_more, firsts_all)
