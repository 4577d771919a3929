-- A step that is alone, of which the picks are known without being listed.
use Rattle.std.specs.Prelude.{◌≡◌, ℕ, ◌+◌, ◌^◌, ◌<◌, ◌≤◌, ◌&&◌, ◌==◌, nat_le, Bool, true, false, List, [], ◌∷◌, length, map, Option, Some, None}
use Rattle.std.specs.List.{list_all, range_with_len}
use Rattle.vx_mask.specs.Positions.{set_of}
use Rattle.vx_types.specs.PType.{is_int, number, width}
use Rattle.vx_types.specs.declared.ptype.PType.{PType}
use Rattle.vx_types.specs.declared.nullability.Nullability.TheVariants.{NonNullable}
use Rattle.vx_model.specs.Valid.{non_nullable}
use Rattle.vx_pieces.specs.Indices.{by_column}
use Rattle.vx_positions.specs.Positions.{is_position, position_of}
use Rattle.vx_steps.specs.Compose.{step_nullability}
use Rattle.vx_steps.specs.Step.{StepValue, take_step}
use Rattle.vx_steps.specs.Walk.{all_positions, apply, broken}
use Rattle.vx_arrow.specs.Answer.{AreMeant}
use Rattle.vx_arrow.specs.Image.{StepParts, holds_records, kind_in, numbers_in, ptype_in, records_in, step_in, steps_in}
use Rattle.vx_arrow.specs.declared.image.StepKind.{StepKind}
use Rattle.vx_arrow.specs.declared.image.StepKind.TheVariants.{Slice, Filter, Take, TakePieces}
use Rattle.vx_arrow.specs.declared.known.KnownPicks.{KnownPicks}
use Rattle.vx_arrow.specs.declared.known.KnownPicks.TheVariants as variants
use Rattle.vx_arrow.specs.declared.known.Numbers.{Numbers}

-- the bytes hold all numbers, which are integers
pub record IsHeld (t : Numbers) : Type 0 where
  pub int : is_int t.ptype ≡ true
  pub counted : t.offset + t.len < 2 ^ 63
  pub held : holds_records (width t.ptype) t.bytes.now (t.offset + t.len) ≡ true

-- the bytes of each number
abbrev pub number_bytes : Numbers → List (List ℕ)
number_bytes t = records_in (width t.ptype) t.bytes.now t.offset t.len

-- whether each is one of n positions
abbrev pub are_positions : ℕ → Numbers → Bool
are_positions n t = list_all (λ r. is_position n (number t.ptype r)) (number_bytes t)

-- the positions that they name
abbrev pub numbers_at : Numbers → List ℕ
numbers_at t = map (λ r. position_of (number t.ptype r)) (number_bytes t)

-- the image is a take by them
pub record AreNumbers (s : StepParts) (t : Numbers) : Type 0 where
  pub held : IsHeld t
  pub means : step_in s
      ≡ take_step (by_column (numbers_in t.ptype t.bytes.now non_nullable t.offset t.len))

-- there is no validity
abbrev pub is_bare : List ℕ → Bool
is_bare [] = true
is_bare (b ∷ bytes) = false

-- the numbers of an image are integers of this type, and each is one of n positions
abbrev pub names_rows : ℕ → Option PType → StepParts → Bool
names_rows n None s = false
names_rows n (Some p) s =
    is_int p
    && list_all (λ r. is_position n (number p r)) (records_in (width p) s.values s.offset s.len)

abbrev pub is_known_by : ℕ → Option StepKind → StepParts → Bool
is_known_by n None s = false
is_known_by n (Some Slice) s = nat_le s.start s.end && nat_le s.end n
is_known_by n (Some Filter) s = is_bare s.valid && (s.len == n)
is_known_by n (Some Take) s = is_bare s.valid && names_rows n (ptype_in s.ptype) s
is_known_by n (Some TakePieces) s = false

-- the picks of an image over n rows are known: a slice of them, a filter with a bit for each, or a
-- take by integers, each of which is one of them; there are no nulls
abbrev pub is_known : ℕ → StepParts → Bool
is_known n s = is_known_by n (kind_in s.kind) s

-- so are not those of the only image, where it has a meaning
abbrev pub IsUnknown : ℕ → List StepParts → Type 0
IsUnknown n steps =
    (s : StepParts) → steps ≡ s ∷ [] → AreMeant steps → is_known n s ≡ false

-- these are the numbers of an image, which has no validity
pub record AreOfImage (s : StepParts) (t : Numbers) : Type 0 where
  pub bare : is_bare s.valid ≡ true
  pub type_is : ptype_in s.ptype ≡ Some t.ptype
  pub bytes : t.bytes.now ≡ s.values
  pub offset : t.offset ≡ s.offset
  pub len : t.len ≡ s.len

-- the picks, of which none is null
abbrev pub places_of : KnownPicks → List ℕ
places_of (variants.Range start len) = range_with_len start len
places_of (variants.Numbers t) = numbers_at t
places_of (variants.Mask b) = set_of b.bits

-- each pick is one of n rows
abbrev pub IsSound : ℕ → KnownPicks → Type 0
IsSound n (variants.Range start len) = start + len ≤ n
IsSound n (variants.Numbers t) = IsHeld t × (are_positions n t ≡ true)
IsSound n (variants.Mask b) = length b.bits ≡ n

-- the step breaks no rule over n rows, and leaves these picks
pub record Leaves (n : ℕ) (step : StepValue) (a : KnownPicks) : Type 0 where
  pub sound : IsSound n a
  pub whole : broken step n ≡ None
  pub picks : apply None step (all_positions n) ≡ map (λ p. Some p) (places_of a)
  pub bare : step_nullability step ≡ NonNullable

-- the images are one, which means such a step
pub record IsAlone (n : ℕ) (steps : List StepParts) (a : KnownPicks) : Type 0 where
  pub meant : AreMeant steps
  pub step : StepValue
  pub means : steps_in steps ≡ step ∷ []
  pub leaves : Leaves n step a
