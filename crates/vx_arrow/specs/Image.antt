-- Images of steps, and the steps that they mean.
use Rattle.std.specs.Prelude.{ℕ, ◌+◌, ◌*◌, ◌^◌, ◌==◌, nat_le, nat_lt, length, List, [], ◌∷◌, map, take, drop, Bool, true, Option, Some, None, if◌then◌else◌}
use Rattle.std.specs.List.{range_with_len}
use Rattle.vx_bits.specs.BitBuffer.{bits_of}
use Rattle.vx_types.specs.PType.{width}
use Rattle.vx_types.specs.TypeTree.{primitive_kind}
use Rattle.vx_types.specs.declared.ptype.PType.{PType}
use Rattle.vx_types.specs.declared.ptype.PType.TheVariants.{U8, U16, U32, U64, I8, I16, I32, I64, F16, F32, F64}
use Rattle.vx_model.specs.Bool.{bits_column, bool_column, bool_with}
use Rattle.vx_model.specs.Column.{Column}
use Rattle.vx_model.specs.Records.{records_column}
use Rattle.vx_model.specs.Valid.{Valid, non_nullable, by_column as valid_by_column}
use Rattle.vx_pieces.specs.Indices.{by_column, by_pieces}
use Rattle.vx_pieces.specs.Pieces.{pieces_parts}
use Rattle.vx_steps.specs.Step.{StepValue, slice_step, filter_step, filter_by_step, take_step}
use Rattle.vx_arrow.specs.declared.image.StepImage as image
use Rattle.vx_arrow.specs.declared.image.StepKind.{StepKind}
use Rattle.vx_arrow.specs.declared.image.StepKind.TheVariants.{Slice, Filter, Take, TakePieces}
use Rattle.vx_arrow.specs.declared.lacks.Lack.{Lack}
use Rattle.vx_arrow.specs.declared.lacks.Lack.TheVariants as lacks
use Rattle.vx_arrow.specs.declared.lacks.Lacking.{Lacking}

-- the numbers and the bytes of an image
pub record StepParts : Type 0 where
  pub kind : ℕ
  pub start : ℕ
  pub end : ℕ
  pub ptype : ℕ
  pub offset : ℕ
  pub len : ℕ
  pub declared : ℕ
  pub values : List ℕ
  pub valid : List ℕ
  pub lengths : List ℕ
  pub multipliers : List ℕ

abbrev pub step_parts : image.StepImage → StepParts
step_parts s =
    record {
      kind = s.kind;
      start = s.start;
      end = s.end;
      ptype = s.ptype;
      offset = s.offset;
      len = s.len;
      declared = s.declared;
      values = s.values.now;
      valid = s.valid.now;
      lengths = s.lengths.now;
      multipliers = s.multipliers.now;
    }

abbrev pub kind_in : ℕ → Option StepKind
kind_in n =
    if n == 0 then Some Slice
    else if n == 1 then Some Filter
    else if n == 2 then Some Take
    else if n == 3 then Some TakePieces
    else None

abbrev pub ptype_in : ℕ → Option PType
ptype_in n =
    if n == 0 then Some U8
    else if n == 1 then Some U16
    else if n == 2 then Some U32
    else if n == 3 then Some U64
    else if n == 4 then Some I8
    else if n == 5 then Some I16
    else if n == 6 then Some I32
    else if n == 7 then Some I64
    else if n == 8 then Some F16
    else if n == 9 then Some F32
    else if n == 10 then Some F64
    else None

-- ---- why an image has no meaning

-- an `i64` counts the items up to the last
abbrev pub is_counted : StepParts → Bool
is_counted s = nat_lt (s.offset + s.len) (2 ^ 63)

abbrev pub holds_bits : List ℕ → ℕ → Bool
holds_bits bytes end = nat_le end (8 * length bytes)

abbrev pub holds_records : ℕ → List ℕ → ℕ → Bool
holds_records w bytes end = nat_le (end * w) (length bytes)

-- a validity of no bytes says that each is there
abbrev pub holds_valid : List ℕ → ℕ → Bool
holds_valid [] end = true
holds_valid (b ∷ bytes) end = holds_bits (b ∷ bytes) end

abbrev pub unless : Bool → Lack → Option Lack → Option Lack
unless holds lack rest = if holds then rest else Some lack

abbrev pub filter_lack : StepParts → Option Lack
filter_lack s =
    unless (is_counted s) lacks.Counted
    (unless (holds_bits s.values (s.offset + s.len)) lacks.Values
    (unless (holds_valid s.valid (s.offset + s.len)) lacks.Valid None))

abbrev pub take_lack : PType → StepParts → Option Lack
take_lack p s =
    unless (is_counted s) lacks.Counted
    (unless (holds_records (width p) s.values (s.offset + s.len)) lacks.Values
    (unless (holds_valid s.valid (s.offset + s.len)) lacks.Valid None))

abbrev pub pieces_lack : StepParts → Option Lack
pieces_lack s =
    unless (is_counted s) lacks.Counted
    (unless (holds_records 8 s.values (s.offset + s.len)) lacks.Values
    (unless (holds_records 8 s.lengths (s.offset + s.len)) lacks.Lengths
    (unless (holds_records 8 s.multipliers (s.offset + s.len)) lacks.Multipliers None)))

abbrev pub typed_lack : Option PType → StepParts → Option Lack
typed_lack None s = Some lacks.Type
typed_lack (Some p) s = take_lack p s

abbrev pub lack_by : Option StepKind → StepParts → Option Lack
lack_by None s = Some lacks.Kind
lack_by (Some Slice) s = None
lack_by (Some Filter) s = filter_lack s
lack_by (Some Take) s = typed_lack (ptype_in s.ptype) s
lack_by (Some TakePieces) s = pieces_lack s

-- what an image lacks, the first that holds
abbrev pub step_lack : StepParts → Option Lack
step_lack s = lack_by (kind_in s.kind) s

abbrev pub or_later : ℕ → Option Lack → Option Lacking → Option Lacking
or_later k None later = later
or_later k (Some lack) later = Some (record { step = k; lack = lack })

-- the first of the images from number k on that lacks something
abbrev pub first_lack : ℕ → List StepParts → Option Lacking
first_lack k [] = None
first_lack k (s ∷ steps) = or_later k (step_lack s) (first_lack (k + 1) steps)

-- ---- the step that an image means, where it lacks nothing

-- record k of the bytes, of w bytes each
abbrev pub record_at : ℕ → List ℕ → ℕ → List ℕ
record_at w bytes k = take w (drop (k * w) bytes)

-- `len` records of w bytes, whose item i is record `offset + i` of the bytes
abbrev pub records_in : ℕ → List ℕ → ℕ → ℕ → List (List ℕ)
records_in w bytes offset len = map (record_at w bytes) (range_with_len offset len)

-- a bit for each of `len` rows from bit `offset` on; there is no null where there are no bytes
abbrev pub valid_in : List ℕ → ℕ → ℕ → Valid
valid_in [] offset len = non_nullable
valid_in (b ∷ bytes) offset len = valid_by_column (bits_column (bits_of (b ∷ bytes) offset len) 0)

-- the column of numbers of a type
abbrev pub numbers_in : PType → List ℕ → Valid → ℕ → ℕ → Column
numbers_in p bytes valid offset len =
    records_column
    (record {
      kind = primitive_kind p;
      width = width p;
      records = records_in (width p) bytes offset len;
      valid = valid;
    })

abbrev pub naturals_in : List ℕ → StepParts → Column
naturals_in bytes s = numbers_in U64 bytes non_nullable s.offset s.len

-- a filter by bits, of which some may be null
abbrev pub filter_by_bits : List Bool → Valid → StepValue
filter_by_bits bits non_nullable = filter_step bits
filter_by_bits bits valid = filter_by_step (bool_column (bool_with bits 0 valid))

abbrev pub filter_in : StepParts → StepValue
filter_in s = filter_by_bits (bits_of s.values s.offset s.len) (valid_in s.valid s.offset s.len)

abbrev pub typed_take_in : PType → StepParts → StepValue
typed_take_in p s =
    take_step (by_column (numbers_in p s.values (valid_in s.valid s.offset s.len) s.offset s.len))

-- a number that names no type means none; it is lacking
abbrev pub take_in : Option PType → StepParts → StepValue
take_in None s = slice_step 0 0
take_in (Some p) s = typed_take_in p s

abbrev pub pieces_in : StepParts → StepValue
pieces_in s =
    take_step (by_pieces (pieces_parts (naturals_in s.values s) (naturals_in s.lengths s)
    (naturals_in s.multipliers s) s.declared))

abbrev pub step_by : Option StepKind → StepParts → StepValue
step_by None s = slice_step 0 0
step_by (Some Slice) s = slice_step s.start s.end
step_by (Some Filter) s = filter_in s
step_by (Some Take) s = take_in (ptype_in s.ptype) s
step_by (Some TakePieces) s = pieces_in s

abbrev pub step_in : StepParts → StepValue
step_in s = step_by (kind_in s.kind) s

abbrev pub steps_in : List StepParts → List StepValue
steps_in steps = map step_in steps
