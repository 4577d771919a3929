-- What a list of steps does to n rows: the composed picks, or the first broken step.
use Rattle.std.specs.Prelude.{ℕ, ◌+◌, ◌-◌, ◌==◌, ◌&&◌, nat_le, length, List, [], ◌∷◌, map, Option, Some, None, slice_range, if◌then◌else◌}
use Rattle.std.specs.List.{range_with_len, items_where_true}
use Rattle.std.specs.Option.{option_map}
use Rattle.vx_bits.specs.BitBuffer.{true_count_of}
use Rattle.vx_take.specs.Picks.{at}
use Rattle.vx_pieces.specs.Indices.{index_fault, index_len, index_picks}
use Rattle.vx_pieces.specs.declared.fault.IndexFault.{IndexFault}
use Rattle.vx_pieces.specs.declared.fault.IndexFault.TheVariants as faults
use Rattle.vx_column.specs.Truth.{true_bits}
use Rattle.vx_reading.specs.BoolRows.{is_bool_type}
use Rattle.vx_steps.specs.Step.{StepValue, slice_step, filter_step, filter_by_step, take_step}
use Rattle.vx_steps.specs.declared.cause.Cause.{Cause}
use Rattle.vx_steps.specs.declared.cause.Cause.TheVariants.{BadRange, BadMask, NotBool, InvalidIndices, BadPieces, OutOfBounds}

-- the rule that a take from n rows breaks, by the fault of its indices
abbrev pub cause_of : ℕ → IndexFault → Cause
cause_of n faults.InvalidIndices = InvalidIndices
cause_of n faults.BadPieces = BadPieces
cause_of n (faults.OutOfBounds index) = OutOfBounds index n

-- the rule that a step breaks over n rows, the first that holds
abbrev pub broken : StepValue → ℕ → Option Cause
broken (slice_step start end) n =
    if nat_le start end && nat_le end n then None else Some (BadRange start end n)
broken (filter_step bits) n = if length bits == n then None else Some (BadMask (length bits) n)
broken (filter_by_step column) n =
    if is_bool_type column.dtype then
    (if length column.rows == n then None else Some (BadMask (length column.rows) n))
    else Some NotBool
broken (take_step indices) n = option_map (cause_of n) (index_fault indices n)

-- what a step that breaks no rule leaves of a list, with `missing` where it names no item
abbrev pub apply : {X : Type 0} → X → StepValue → List X → List X
apply missing (slice_step start end) items = slice_range items start end
apply missing (filter_step bits) items = items_where_true bits items
apply missing (filter_by_step column) items = items_where_true (true_bits column) items
apply missing (take_step indices) items = at missing items (index_picks indices)

-- how many rows such a step leaves
abbrev pub rows_left : StepValue → ℕ
rows_left (slice_step start end) = end - start
rows_left (filter_step bits) = true_count_of bits
rows_left (filter_by_step column) = true_count_of (true_bits column)
rows_left (take_step indices) = index_len indices

pub data Walk : Type 0 where
  -- the first broken step, and its cause
  walk_fault : ℕ → Cause → Walk
  -- the composed picks: for each row of the answer its position in the source, or none for a null
  walk_picks : List (Option ℕ) → Walk

-- the fault of step k, where it is broken
abbrev pub unless_broken : Option Cause → ℕ → Walk → Walk
unless_broken None k rest = rest
unless_broken (Some cause) k rest = walk_fault k cause

-- the steps from number k on, over these positions
abbrev pub walk_from : ℕ → List (Option ℕ) → List StepValue → Walk
walk_from k picks [] = walk_picks picks
walk_from k picks (s ∷ ss) =
    unless_broken (broken s (length picks)) k (walk_from (k + 1) (apply None s picks) ss)

-- every position of n rows
abbrev pub all_positions : ℕ → List (Option ℕ)
all_positions n = map (λ i. Some i) (range_with_len 0 n)

abbrev pub walk : ℕ → List StepValue → Walk
walk n steps = walk_from 0 (all_positions n) steps
