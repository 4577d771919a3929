-- What was read of a file.
use Rattle.std.specs.Prelude.{◌≡◌, ℕ, ◌+◌, ◌*◌, ◌/◌, ◌%◌, ◌<◌, ◌≤◌, true, List, [], ◌++◌, ◌∷◌, Option, None, Some, IfSome, length, map, take, drop, slice_index}
use Rattle.std.specs.List.{list_any}
use Rattle.vx_bits.specs.WordReader.{then_told}
use Rattle.vx_take.specs.Picks.{BoundedPicks}
use Rattle.vx_packed.specs.Chunk.{IsSpelling}
use Rattle.vx_packed.specs.Faults.{numbers_in}
use Rattle.vx_packed.specs.Parts.{record_of}
use Rattle.vx_file.specs.Blocks.{block_at}
use Rattle.vx_file.specs.Errors.{MatchReading}
use Rattle.vx_file.specs.declared.error.FileError.{FileError}
use Rattle.vx_file.specs.Touched.{blocks_for, lies_in, blocks_touched}

-- the reads grew by the touched blocks of the first `1024 * n` rows, for some n
pub record ReadUpTo (picks : List (Option ℕ)) (before after : Option (List ℕ)) (most : ℕ)
    : Type 0 where
  pub count : ℕ
  pub within : count ≤ most
  pub told : after ≡ then_told before (blocks_touched picks count)

-- the reads grew by the touched blocks up to this one of them, which is no later than `most`
pub record ReadLast (picks : List (Option ℕ)) (before after : Option (List ℕ)) (most block : ℕ)
    : Type 0 where
  pub within : block ≤ most
  pub front : List ℕ
  pub last : blocks_touched picks block ≡ front ++ block ∷ []
  pub told : after ≡ then_told before (blocks_touched picks block)

-- 1024 of the numbers are those that a spelling states
pub record IsHeld (width : ℕ) (numbers : List ℕ) (start : ℕ) (bytes : List ℕ) : Type 0 where
  pub spelled : IsSpelling width bytes
  pub values : take 1024 (drop start numbers) ≡ numbers_in bytes

-- for each block of rows where its numbers begin
pub record HasRoom (numbers starts : List ℕ) (picks : List (Option ℕ)) (n : ℕ) : Type 0 where
  pub long : length starts ≡ n
  pub inside : (k : ℕ) → k < n → list_any (lies_in k) picks ≡ true
      → slice_index starts k + 1024 ≤ length numbers

-- each touched block of the first `1024 * n` rows is held
abbrev pub AreHeld : ℕ → List ℕ → List ℕ → List (Option ℕ) → ℕ → List (List ℕ) → Type 0
AreHeld width numbers starts picks n blocks =
    (k : ℕ) → k < n → list_any (lies_in k) picks ≡ true
    → IsHeld width numbers (slice_index starts k) (block_at blocks (k + 1))

-- the number of a pick; 0 for a null
abbrev pub held_number : List ℕ → List ℕ → Option ℕ → ℕ
held_number numbers starts None = 0
held_number numbers starts (Some p) = slice_index numbers (slice_index starts (p / 1024) + p % 1024)

-- the bytes are no spelling
abbrev pub IsNoSpelling : ℕ → List ℕ → Type 0
IsNoSpelling width bytes = IsSpelling width bytes → ⊥

-- what holds where as many reads are recorded as there are touched blocks
abbrev pub AreTold : ℕ → BoundedPicks → Type 0 → Type 0
AreTold spare picks P = length (blocks_touched picks.picks (blocks_for picks.bound)) ≤ spare → P

-- the number of a pick is held
abbrev pub IsThere : List ℕ → List ℕ → Option ℕ → Type 0
IsThere numbers starts pick =
    IfSome pick (λ p. (p / 1024 < length starts)
    × (slice_index starts (p / 1024) + 1024 ≤ length numbers))

-- the records of picks
abbrev pub held_records : ℕ → List ℕ → List ℕ → List (Option ℕ) → List (List ℕ)
held_records width numbers starts picks =
    map (λ pick. record_of width (held_number numbers starts pick)) picks

-- block `rows + 1` holds a picked row
pub record IsTouched (picks : BoundedPicks) (block : ℕ) : Type 0 where
  pub rows : ℕ
  pub number : block ≡ rows + 1
  pub within : rows < blocks_for picks.bound
  pub picked : list_any (lies_in rows) picks.picks ≡ true

-- a block that an error names holds a picked row
abbrev pub NamesTouched : BoundedPicks → FileError → Type 0
NamesTouched picks e = MatchReading e (Unit {0}) (IsTouched picks) (λ _ _. Unit {0}) (Unit {0})

-- each touched block is a spelling
abbrev pub AreSpellings : ℕ → BoundedPicks → List (List ℕ) → Type 0
AreSpellings width picks blocks =
    (k : ℕ) → k < blocks_for picks.bound → list_any (lies_in k) picks.picks ≡ true
    → IsSpelling width (block_at blocks (k + 1))

-- the reads grew by all touched blocks
abbrev pub AllRead : BoundedPicks → Option (List ℕ) → Option (List ℕ) → Type 0
AllRead picks before after =
    after ≡ then_told before (blocks_touched picks.picks (blocks_for picks.bound))

-- what an error of reading says, where as many reads are recorded as there are touched blocks: a
-- read failed; the last block that was read is no spelling; or memory was wanting
abbrev pub IsReadError : ℕ → BoundedPicks → ℕ → Type 0 → Option (List ℕ) → Option (List ℕ)
    → Option (List (List ℕ)) → FileError → Type 0
IsReadError width picks spare Raised before after blocks e =
    MatchReading e
    (Raised × AreTold spare picks (ReadUpTo picks.picks before after (blocks_for picks.bound)))
    (λ block. IfSome blocks (λ all. IsNoSpelling width (block_at all block))
    × AreTold spare picks (ReadLast picks.picks before after (blocks_for picks.bound) block))
    (λ _ _. ⊥)
    (AreTold spare picks (ReadUpTo picks.picks before after (blocks_for picks.bound)))
