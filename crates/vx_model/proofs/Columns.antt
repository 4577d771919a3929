-- Lists of columns.
use Rattle.std.proofs.Common.{◌≡◌, ℕ, ◌≤◌, List, length, take}
use Rattle.std.proofs.lemmas.List.{take_all}
use Rattle.vx_model.specs.Column.{Column}

-- as many columns as there are, or more, are all of them
pub columns_all : (cs : List Column) (k : ℕ) → length cs ≤ k → take k cs ≡ cs
columns_all cs k h = take_all k cs h
