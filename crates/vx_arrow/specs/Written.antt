-- Picks in lists of the caller's.
use Rattle.std.specs.Prelude.{◌≡◌, ◌≢◌, ◌==◌, ℕ, ◌+◌, ◌/◌, ◌<◌, ◌≤◌, ◌&&◌, nat_le, length, List, map, drop, slice_index_or, ◌++◌, Bool, Option, Some, None, is_some}
use Rattle.std.specs.Int.{bit_at}
use Rattle.vx_bits.specs.BitBuffer.{bit_of, bits_of}
use Rattle.vx_positions.specs.Positions.{AllThere}
use Rattle.vx_types.specs.declared.nullability.Nullability.{Nullability}
use Rattle.vx_types.specs.declared.nullability.Nullability.TheVariants.{NonNullable, Nullable}
use Rattle.vx_arrow.specs.declared.need.Need.{Need}

-- bytes that hold so many bits
abbrev pub bytes_for : ℕ → ℕ
bytes_for n = (n + 7) / 8

-- what n picks need
abbrev pub need_of : ℕ → Nullability → Need
need_of n NonNullable = record { places = n; valid = 0 }
need_of n Nullable = record { places = n; valid = bytes_for n }

abbrev pub has_room : Need → ℕ → ℕ → Bool
has_room need places valid = nat_le need.places places && nat_le need.valid valid

-- the place that is written for a pick: 0 for a null
abbrev pub place_of : Option ℕ → ℕ
place_of None = 0
place_of (Some p) = p

-- the first places are those of the picks, and the others are as they were
abbrev pub ArePlaced : List (Option ℕ) → List ℕ → List ℕ → Type 0
ArePlaced picks old new = new ≡ map place_of picks ++ drop (length picks) old

-- bit j is this one, and the others are as they were
pub record IsMarked (old new : List ℕ) (j : ℕ) (bit : Bool) : Type 0 where
  pub mark : bit_of new j ≡ bit
  pub others : (i : ℕ) → i ≢ j → bit_of new i ≡ bit_of old i

-- the first n bits of the byte say which picks from `first` on are not null, and the others are
-- clear
pub record IsByteOf (picks : List (Option ℕ)) (first n byte : ℕ) : Type 0 where
  pub bits : (i : ℕ) → i < n
      → (bit_at byte i == 1) ≡ is_some (slice_index_or picks (first + i) None)
  pub rest : (i : ℕ) → n ≤ i → bit_at byte i ≡ 0

-- the first bits say which picks are not null, and the others are as they were
pub record AreMarked (picks : List (Option ℕ)) (old new : List ℕ) : Type 0 where
  pub marks : bits_of new 0 (length picks) ≡ map is_some picks
  pub rest : (j : ℕ) → length picks ≤ j → bit_of new j ≡ bit_of old j

-- bits say which picks are not null; where none are needed, no pick is null, and no bit is written
pub record AreShown (needed : ℕ) (picks : List (Option ℕ)) (old new : List ℕ) : Type 0 where
  pub there : needed ≡ 0 → AllThere picks
  pub same : needed ≡ 0 → new ≡ old
  pub marks : needed ≢ 0 → AreMarked picks old new
