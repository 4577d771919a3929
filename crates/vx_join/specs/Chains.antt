-- Keys that match, and rows that are linked to the next one of the same key.
use Rattle.std.specs.Prelude.{◌≡◌, ℕ, ◌+◌, ◌<◌, ◌≤◌, Bool, false, cond, List, [], ◌∷◌, length, drop, slice_index, slice_index_or, Option, None, Some}
use Rattle.std.specs.Option.{unwrap_or}

-- both rows have a key, and the keys are equal; a row with a null in its key has none
abbrev pub keys_match : {K : Type 0} → (K → K → Bool) → Option K → Option K → Bool
keys_match same None right = false
keys_match same (Some k) None = false
keys_match same (Some k) (Some q) = same k q

-- the position of the first item that passes, or that behind the last one
abbrev pub first_from : {X : Type 0} → (X → Bool) → ℕ → List X → ℕ
first_from test at [] = at
first_from test at (x ∷ xs) = cond (test x) at (first_from test (at + 1) xs)

-- the first place at or behind `at` whose row's key is equal to that of `row`
abbrev pub first_match : {K : Type 0} → (K → K → Bool) → List (Option K) → Option K → ℕ → ℕ
first_match same rows row at = first_from (keys_match same row) at (drop at rows)

-- the rows from `low` on are linked: `first` has the first row of each key, `links` the next one of
-- the same key for each row, and a row below `low` isn't linked yet. Behind the last row is the end
pub record AreLinked {K : Type 0} (same : K → K → Bool) (rows : List (Option K)) (low : ℕ)
    (first : K → Option ℕ) (links : List ℕ) : Type 0 where
  pub len : length links ≡ length rows
  pub first_of : (q : K) → unwrap_or (first q) (length rows) ≡ first_match same rows (Some q) low
  pub next_of : (k : ℕ) → low ≤ k → k < length rows
      → slice_index links k ≡ first_match same rows (slice_index_or rows k None) (k + 1)
  pub unlinked : (k : ℕ) → k < low → slice_index links k ≡ length rows
