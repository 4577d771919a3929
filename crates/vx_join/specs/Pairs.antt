-- The pairs of items that match: each item of one list against each of another.
use Rattle.std.specs.Prelude.{ℕ, ◌+◌, Bool, cond, List, [], ◌∷◌, ◌++◌, map}

-- the positions of the items that pass a test, where the first item's is `at`
abbrev pub positions_from : {X : Type 0} → (X → Bool) → ℕ → List X → List ℕ
positions_from test at [] = []
positions_from test at (x ∷ xs) =
    cond (test x) (at ∷ positions_from test (at + 1) xs) (positions_from test (at + 1) xs)

-- the pairs of positions whose items match, where the first item on the left has position i
abbrev pub pairs_from : {X Y : Type 0} → (X → Y → Bool) → ℕ → List X → List Y → List (ℕ × ℕ)
pairs_from matches i [] ys = []
pairs_from matches i (x ∷ xs) ys =
    map (λ j. (i, j)) (positions_from (matches x) 0 ys) ++ pairs_from matches (i + 1) xs ys

-- all pairs of positions whose items match, by the left and then by the right position
abbrev pub pairs : {X Y : Type 0} → (X → Y → Bool) → List X → List Y → List (ℕ × ℕ)
pairs matches xs ys = pairs_from matches 0 xs ys

-- the left and the right positions
abbrev pub lefts : List (ℕ × ℕ) → List ℕ
lefts ps = map (λ p. p.0) ps

abbrev pub rights : List (ℕ × ℕ) → List ℕ
rights ps = map (λ p. p.1) ps
