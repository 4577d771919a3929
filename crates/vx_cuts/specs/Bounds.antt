-- Where the parts of a column begin and end.
use Rattle.std.specs.Prelude.{◌≡◌, ℕ, ◌+◌, ◌-◌, ◌<◌, ◌≤◌, length, List, [], ◌∷◌, slice_index}

-- where each part begins, and where the last one ends, where the first begins at `start`
abbrev pub bounds_from : ℕ → List ℕ → List ℕ
bounds_from start [] = start ∷ []
bounds_from start (n ∷ ns) = start ∷ bounds_from (start + n) ns

-- where each part of these lengths begins, the first one at 0, and where the last one ends
abbrev pub bounds_of : List ℕ → List ℕ
bounds_of lengths = bounds_from 0 lengths

-- where the last part ends
abbrev pub end_of : List ℕ → ℕ
end_of bounds = slice_index bounds (length bounds - 1)

-- where parts begin, and where the last one ends
pub record AreBounds (bounds : List ℕ) : Type 0 where
  pub some : 0 < length bounds
  pub starts : slice_index bounds 0 ≡ 0
  pub ascending : (k : ℕ) → k + 1 < length bounds
      → slice_index bounds k ≤ slice_index bounds (k + 1)
