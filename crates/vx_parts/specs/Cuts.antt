-- Slices and filters of the whole, as steps of a part, which is a range of its rows.
use Rattle.std.specs.Prelude.{◌≡◌, ℕ, ◌-◌, min, List, [], ◌∷◌, Bool, Option, Some, None, take, slice_range}
use Rattle.vx_bits.specs.BitBuffer.{true_count_of}
use Rattle.vx_mask.specs.Mask.{mask_bits}
use Rattle.vx_column.specs.Truth.{true_bits}
use Rattle.vx_steps.specs.Step.{StepValue, slice_step, filter_step, filter_by_step, take_step}
use Rattle.vx_parts.specs.declared.cut.Cut.{Cut}
use Rattle.vx_parts.specs.declared.cut.Cut.TheVariants.{Slice, Filter}

-- a step that is no take: the rows from start up to end, or those at the set bits
pub data CutValue : Type 0 where
  slice_cut : ℕ → ℕ → CutValue
  filter_cut : List Bool → CutValue

abbrev pub cut_value : Cut → CutValue
cut_value (Slice start end) = slice_cut start end
cut_value (Filter mask) = filter_cut (mask_bits mask)

abbrev pub as_step : CutValue → StepValue
as_step (slice_cut start end) = slice_step start end
as_step (filter_cut bits) = filter_step bits

-- the steps before the first take: a filter by a column is one by its bits
abbrev pub cuts_of : List StepValue → List CutValue
cuts_of [] = []
cuts_of (slice_step start end ∷ ss) = slice_cut start end ∷ cuts_of ss
cuts_of (filter_step bits ∷ ss) = filter_cut bits ∷ cuts_of ss
cuts_of (filter_by_step column ∷ ss) = filter_cut (true_bits column) ∷ cuts_of ss
cuts_of (take_step indices ∷ ss) = []

-- the steps from the first take on
abbrev pub from_take : List StepValue → List StepValue
from_take [] = []
from_take (slice_step start end ∷ ss) = from_take ss
from_take (filter_step bits ∷ ss) = from_take ss
from_take (filter_by_step column ∷ ss) = from_take ss
from_take (take_step indices ∷ ss) = take_step indices ∷ ss

-- how many of the rows before a position a step leaves
abbrev pub carried : CutValue → ℕ → ℕ
carried (slice_cut start end) p = min p end - min p start
carried (filter_cut bits) p = true_count_of (take p bits)

-- how many of them steps leave
abbrev pub carried_by : List CutValue → ℕ → ℕ
carried_by [] p = p
carried_by (c ∷ cs) p = carried_by cs (carried c p)

-- a step, as that of the part from row `low` up to row `high`, counted from `low`
abbrev pub own_cut : CutValue → ℕ → ℕ → CutValue
own_cut (slice_cut start end) low high =
    slice_cut (min (start - low) (high - low)) (min (end - low) (high - low))
own_cut (filter_cut bits) low high = filter_cut (slice_range bits low high)

-- steps, as those of this part: before each of them its bounds are counted anew
abbrev pub own_cuts : List CutValue → ℕ → ℕ → List CutValue
own_cuts [] low high = []
own_cuts (c ∷ cs) low high = own_cut c low high ∷ own_cuts cs (carried c low) (carried c high)

-- a step, to be cut; none of a take
abbrev pub IsCutOf : StepValue → Option Cut → Type 0
IsCutOf (slice_step start end) None = ⊥
IsCutOf (slice_step start end) (Some cut) = cut_value cut ≡ slice_cut start end
IsCutOf (filter_step bits) None = ⊥
IsCutOf (filter_step bits) (Some cut) = cut_value cut ≡ filter_cut bits
IsCutOf (filter_by_step column) None = ⊥
IsCutOf (filter_by_step column) (Some cut) = cut_value cut ≡ filter_cut (true_bits column)
IsCutOf (take_step indices) None = Unit {0}
IsCutOf (take_step indices) (Some cut) = ⊥
