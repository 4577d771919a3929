-- Bytes of chunks that follow each other.
use Rattle.std.specs.Prelude.{◌≡◌, ℕ, zero, suc, ◌+◌, ◌*◌, ◌^◌, ◌<◌, ◌≤◌, slice_index, slice_index_or, List, [], ◌∷◌, length, map, take, drop, Option, None, Some}
use Rattle.std.specs.Int.{to_le_bytes, w64}
use Rattle.std.specs.List.{flat_map}
use Rattle.vx_packed.specs.Faults.{chunk_fault, digits_in, numbers_in}
use Rattle.vx_packed.specs.declared.fault.PackedFault.{PackedFault}
use Rattle.vx_packed.specs.declared.fault.PackedError.{PackedError}
use Rattle.vx_packed.specs.declared.fault.PackedError.TheVariants.{Bad}

-- how many bytes a chunk has by its first one
abbrev pub front_len : List ℕ → ℕ
front_len bytes = 9 + 128 * digits_in bytes

-- the bytes, cut where each chunk ends by its first byte, into at most so many parts
unfoldable pub cut_parts : ℕ → List ℕ → List (List ℕ)
cut_parts zero bytes = []
cut_parts (suc n) [] = []
cut_parts (suc n) (b ∷ bytes) =
    take (front_len (b ∷ bytes)) (b ∷ bytes)
    ∷ cut_parts n (drop (front_len (b ∷ bytes)) (b ∷ bytes))

unfoldable pub parts_of : List ℕ → List (List ℕ)
parts_of bytes = cut_parts (length bytes) bytes

-- a chunk with its fault, where it has one, else what the chunks behind it give
abbrev pub bad_or : Option PackedFault → ℕ → Option PackedError → Option PackedError
bad_or None k rest = rest
bad_or (Some fault) k rest = Some (Bad k fault)

-- the first part, counted from k, that is no chunk, and the rule that it breaks
unfoldable pub first_bad : ℕ → ℕ → List (List ℕ) → Option PackedError
first_bad width k [] = None
first_bad width k (part ∷ parts) =
    bad_or (chunk_fault width part) k (first_bad width (k + 1) parts)

-- the numbers that bytes state, part by part
abbrev pub all_numbers : List (List ℕ) → List ℕ
all_numbers parts = flat_map numbers_in parts

-- a number as a record: its lowest bytes, the lowest first
abbrev pub record_of : ℕ → ℕ → List ℕ
record_of width n = take width (to_le_bytes w64 n)

abbrev pub records_of : ℕ → List ℕ → List (List ℕ)
records_of width numbers = map (record_of width) numbers

-- the places where the parts begin
pub record IsIndexed (bytes starts : List ℕ) : Type 0 where
  pub counted : length starts ≡ length (parts_of bytes)
  pub inside : (k : ℕ) → k < length starts → slice_index starts k < length bytes
  pub places : (k : ℕ) → k < length starts
      → take (front_len (drop (slice_index starts k) bytes)) (drop (slice_index starts k) bytes)
      ≡ slice_index_or (parts_of bytes) k []

-- each part is a chunk, there are no more than a `usize` counts numbers, and it is known where
-- each begins
pub record AreChunks (width : ℕ) (bytes starts : List ℕ) : Type 0 where
  pub narrow : width ≤ 8
  pub good : first_bad width 0 (parts_of bytes) ≡ None
  pub bounded : 1024 * length (parts_of bytes) < 2 ^ 64
  pub indexed : IsIndexed bytes starts
