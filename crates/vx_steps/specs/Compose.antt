-- The picks that the steps of a list leave.
use Rattle.std.specs.Prelude.{◌≡◌, ℕ, ◌-◌, ◌^◌, ◌<◌, length, List, [], ◌∷◌, map, Option, Some, None, slice_index_or, slice_range}
use Rattle.std.specs.List.{range_with_len}
use Rattle.vx_types.specs.Nullability.{either_nullable}
use Rattle.vx_types.specs.declared.nullability.Nullability.{Nullability}
use Rattle.vx_types.specs.declared.nullability.Nullability.TheVariants.{NonNullable}
use Rattle.vx_pieces.specs.Indices.{index_nullability}
use Rattle.vx_steps.specs.Step.{StepValue, slice_step, filter_step, filter_by_step, take_step}
use Rattle.vx_steps.specs.Cause.{MatchError}
use Rattle.vx_steps.specs.Walk.{Walk, walk_fault, walk_picks}
use Rattle.vx_steps.specs.declared.cause.SelectError.{SelectError}
use Rattle.vx_steps.specs.declared.composed.Composed.{Composed}
use Rattle.vx_steps.specs.declared.composed.Composed.TheVariants.{Range, Listed}

-- the positions from start up to end, each a pick
abbrev pub range_picks : ℕ → ℕ → List (Option ℕ)
range_picks start end = map (λ p. Some p) (range_with_len start (end - start))

-- the picks that are kept
abbrev pub picks_in : Composed → List (Option ℕ)
picks_in (Range span) = range_picks span.start span.end
picks_in (Listed picks) = picks.picks

-- what each position is below
abbrev pub bound_of : Composed → ℕ
bound_of (Range span) = span.bound
bound_of (Listed picks) = picks.bound

-- the picks whose numbers these are
abbrev pub picks_by_number : List (Option ℕ) → List ℕ → List (Option ℕ)
picks_by_number picks numbers = map (λ i. slice_index_or picks i None) numbers

-- whether a step may leave nulls where there were none
abbrev pub step_nullability : StepValue → Nullability
step_nullability (slice_step start end) = NonNullable
step_nullability (filter_step bits) = NonNullable
step_nullability (filter_by_step column) = NonNullable
step_nullability (take_step indices) = index_nullability indices

-- whether the steps may
abbrev pub takes_nullability : List StepValue → Nullability
takes_nullability [] = NonNullable
takes_nullability (s ∷ ss) = either_nullable (step_nullability s) (takes_nullability ss)

-- no step is broken, and these are the picks from number start up to end, as far as there are any
abbrev pub IsPartOf : Walk → ℕ → ℕ → List (Option ℕ) → Type 0
IsPartOf (walk_fault k cause) start end part = ⊥
IsPartOf (walk_picks picks) start end part = part ≡ slice_range picks start end

-- no step is broken, and a `usize` counts the picks
abbrev pub IsCounted : Walk → Type 0
IsCounted (walk_fault k cause) = ⊥
IsCounted (walk_picks picks) = length picks < 2 ^ 64

-- no step is broken
abbrev pub IsUnbroken : Walk → Type 0
IsUnbroken (walk_fault k cause) = ⊥
IsUnbroken (walk_picks picks) = Unit {0}

-- an error is the first broken step and its cause, or `NoMemory` where no step is broken
abbrev pub IsFaultOf : Walk → SelectError → Type 0
IsFaultOf w e = MatchError e (λ k cause. w ≡ walk_fault k cause) (IsUnbroken w)
