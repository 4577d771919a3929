-- Rows of w bytes each, one after another.
use Rattle.std.specs.Prelude.{◌≡◌, ℕ, ◌+◌, ◌*◌, List, ◌++◌, take, drop, length}
use Rattle.std.specs.List.{flat_map}

-- row i
abbrev pub row : ℕ → List ℕ → ℕ → List ℕ
row w src i = take w (drop (i * w) src)

-- the rows at places, each counted from row `from` on
unfoldable pub rows_at : ℕ → List ℕ → ℕ → List ℕ → List ℕ
rows_at w src from places = flat_map (λ p. row w src (from + p)) places

-- these rows are written at the front, and what follows is as it was
abbrev pub AreWritten : ℕ → List ℕ → ℕ → List ℕ → List ℕ → List ℕ → Type 0
AreWritten w src from places old new =
    new ≡ rows_at w src from places ++ drop (length places * w) old

-- so they are, and each has all its bytes
pub record ArePut (w : ℕ) (src : List ℕ) (from : ℕ) (places old new : List ℕ) : Type 0 where
  pub written : AreWritten w src from places old new
  pub whole : length (rows_at w src from places) ≡ length places * w
