-- What clauses see of word readers.
use Rattle.std.specs.Prelude.{ℕ, Bool, List, ◌++◌, Option, None, Some}

-- what was told, and then more
abbrev pub then_told : {X : Type 0} → Option (List X) → List X → Option (List X)
then_told None more = None
then_told (Some before) more = Some (before ++ more)

-- a `CountedWords`: its bits, the numbers of the words that were read, and how many more may be
pub record Counted : Type 0 where
  pub bits : List Bool
  pub reads : List ℕ
  pub spare : ℕ
