-- Lists of optional positions, and lists at them.
use Rattle.std.specs.Prelude.{◌≢◌, ℕ, ◌-◌, ◌^◌, ◌<◌, ◌==◌, List, length, map, take, drop, Option, None, Some, IfSome, slice_index, slice_index_or, if◌then◌else◌}
use Rattle.std.specs.List.{All, flat_map, range_with_len}

-- what a clause sees of a `Picks`: its picks, and what each position is below
pub record BoundedPicks : Type 0 where
  pub picks : List (Option ℕ)
  pub bound : ℕ

-- the item at a pick; `missing` at a null
abbrev pub item_at : {X : Type 0} → X → List X → Option ℕ → X
item_at missing items None = missing
item_at missing items (Some p) = slice_index_or items p missing

-- the items at the picks, in order; `missing` at each null
abbrev pub at : {X : Type 0} → X → List X → List (Option ℕ) → List X
at missing items picks = map (item_at missing items) picks

-- each position is below the bound
abbrev pub AreBelow : List (Option ℕ) → ℕ → Type 0
AreBelow picks bound = All (λ pick. IfSome pick (λ p. p < bound)) picks

-- the place that stands for a null
abbrev pub null_place : ℕ
null_place = 2 ^ 64 - 1

-- the pick that a place stands for
abbrev pub pick_of : ℕ → Option ℕ
pick_of place = if place == null_place then None else Some place

-- the picks that places stand for
abbrev pub picks_of : List ℕ → List (Option ℕ)
picks_of places = map pick_of places

-- a place stands for a null, or is below the bound
abbrev pub IsPlace : ℕ → ℕ → Type 0
IsPlace place bound = place ≢ null_place → place < bound

-- each place does
pub record ArePlaces (places : List ℕ) (bound : ℕ) : Type 0 where
  pub each : (k : ℕ) → k < length places → IsPlace (slice_index places k) bound

-- the places in runs, each its start and its length, one run after another
abbrev pub run_places : List (ℕ × ℕ) → List ℕ
run_places runs = flat_map (λ run. range_with_len run.0 run.1) runs

-- the items in runs, each its start and its length, one run after another
abbrev pub in_runs : {X : Type 0} → List X → List (ℕ × ℕ) → List X
in_runs items runs = flat_map (λ run. take run.1 (drop run.0 items)) runs
