-- Columns side by side: the fields of a struct, the children of a union.
use Rattle.std.specs.Prelude.{ℕ, ◌+◌, ◌==◌, nat_lt, List, [], ◌∷◌, length, map, replicate, Bool, Option, None, Some}
use Rattle.std.specs.List.{list_all}
use Rattle.vx_types.specs.RowValue.{RowValue}
use Rattle.vx_types.specs.TypeTree.{TypeTree}
use Rattle.vx_model.specs.Column.{Column}
use Rattle.vx_model.specs.Step.{IsCut, IsStep}
use denote.Param.Weighed.{most}

abbrev pub types_in : List Column → List TypeTree
types_in cs = map (λ (c : Column). c.dtype) cs

-- each has so many rows
abbrev pub are_long : ℕ → List Column → Bool
are_long n cs = list_all (λ (c : Column). length c.rows == n) cs

-- each has a row i
abbrev pub are_long_past : ℕ → List Column → Bool
are_long_past i cs = list_all (λ (c : Column). nat_lt i (length c.rows)) cs

-- how deep columns nest, each in all of them
abbrev pub columns_depth : List Column → ℕ
columns_depth cs = most (λ (c : Column). c.depth + 1) cs

-- one more item in front of each list
abbrev pub with_fronts : {X : Type 0} → List X → List (List X) → List (List X)
with_fronts [] lists = []
with_fronts (x ∷ xs) [] = []
with_fronts (x ∷ xs) (l ∷ lists) = (x ∷ l) ∷ with_fronts xs lists

-- for each of n rows, that row of each column
abbrev pub rows_across : List Column → ℕ → List (List RowValue)
rows_across [] n = replicate n []
rows_across (c ∷ cs) n = with_fronts c.rows (rows_across cs n)

-- each column has this step's rows of the one in its place, and its type
abbrev pub AreSteps : (List RowValue → List RowValue) → List Column → List Column → Type 0
AreSteps f [] [] = Unit {0}
AreSteps f (c ∷ cs) (a ∷ left) = IsStep c (f c.rows) c.dtype a × AreSteps f cs left
AreSteps f cs left = ⊥

-- each column has this step's rows of the one in its place, and its type, and nests no deeper
abbrev pub AreCuts : (List RowValue → List RowValue) → List Column → List Column → Type 0
AreCuts f [] [] = Unit {0}
AreCuts f (c ∷ cs) (a ∷ left) = IsCut c (f c.rows) a × AreCuts f cs left
AreCuts f cs left = ⊥

-- the position of a pick, and 0 of a null
abbrev pub or_first : Option ℕ → ℕ
or_first None = 0
or_first (Some p) = p

-- the picks with the first position in place of each null
abbrev pub firsts_for_nulls : List (Option ℕ) → List (Option ℕ)
firsts_for_nulls picks = map (λ (pick : Option ℕ). Some (or_first pick)) picks
