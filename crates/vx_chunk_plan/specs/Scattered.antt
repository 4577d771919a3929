-- Rows that are written where they belong.
use Rattle.std.specs.Prelude.{◌≡◌, ◌≢◌, ℕ, ◌+◌, ◌-◌, ◌*◌, ◌/◌, ◌^◌, ◌<◌, ◌≤◌, List, false, length, replicate, slice_index, true}
use Rattle.vx_arrow_image.specs.Image.{is_valid}
use Rattle.vx_chunk_plan.specs.Rows.{row_at}

-- the rows of the first n of these picks are those of the chunk, whose first row is row `first`,
-- and all other bytes are as they were
pub record AreScattered (width first : ℕ) (chunk places order : List ℕ) (n : ℕ)
    (old new : List ℕ) : Type 0 where
  pub len : length new ≡ length old
  pub rows : (i : ℕ) → i < n → row_at width new (slice_index order i)
      ≡ row_at width chunk (slice_index places (slice_index order i) - first)
  pub others : (b : ℕ) → ((i : ℕ) → i < n → slice_index order i ≢ b / width)
      → slice_index new b ≡ slice_index old b

-- of the first n rows those of nulls are zeros, and all other bytes are as they were
pub record AreNulled (width : ℕ) (valid : List ℕ) (n : ℕ) (old new : List ℕ) : Type 0 where
  pub len : length new ≡ length old
  pub rows : (j : ℕ) → j < n → is_valid valid j ≡ false
      → row_at width new j ≡ replicate width 0
  pub others : (b : ℕ) → (b / width < n → is_valid valid (b / width) ≡ true)
      → slice_index new b ≡ slice_index old b

-- each of these numbers is one of a pick in the chunk, whose first row is row `first`; chunk and
-- output have enough bytes
pub record Fits (width first rows : ℕ) (chunk places order out : List ℕ) : Type 0 where
  pub wide : 0 < width
  pub small : first + rows < 2 ^ 64
  pub inside : (i : ℕ) → i < length order → slice_index order i < length places
  pub low : (i : ℕ) → i < length order → first ≤ slice_index places (slice_index order i)
  pub high : (i : ℕ) → i < length order
      → slice_index places (slice_index order i) < first + rows
  pub bytes : rows * width ≤ length chunk
  pub room : length places * width ≤ length out

-- the n picks from number i on follow one another, and so do their places
pub record AreFollowing (places order : List ℕ) (i n : ℕ) : Type 0 where
  pub within : i + n ≤ length order
  pub numbers : (t : ℕ) → t < n → slice_index order (i + t) ≡ slice_index order i + t
  pub follow : (t : ℕ) → t < n → slice_index places (slice_index order i + t)
      ≡ slice_index places (slice_index order i) + t
