-- What a JSON value means as a step, and as a list of steps.
use Rattle.std.specs.Prelude.{List, [], ◌∷◌, map, if◌then◌else◌, Option, Some, None, codes}
use Rattle.serde_json.specs.Data.{Data}
use Rattle.serde_json.specs.Find.{get, as_array}
use Rattle.vx_mask.specs.Mask.{partial_of}
use Rattle.vx_mask.specs.MaskValues.{PartialMask}
use Rattle.vx_steps.specs.declared.step.Step.{Step}
use Rattle.vx_steps.specs.declared.step.Step.TheVariants.{Slice, Filter, FilterBy, Take}
use Rattle.vx_steps.specs.Step.{StepValue, step_value, slice_step, filter_step, filter_by_step, take_step}
use Rattle.vx_json.specs.Meaning.{◌>>=◌}
use Rattle.vx_json.specs.Members.{is_closed}
use Rattle.vx_json.specs.Items.{each}
use Rattle.vx_json.specs.Wholes.{pair_of}
use Rattle.vx_json.specs.Masks.{mask_of, stated_mask}
use Rattle.vx_document.specs.Columns.{column_of, flat_of}
use Rattle.vx_document.specs.Indices.{indices_of}

unfoldable pub slice_of : Data → Option StepValue
slice_of d = do
  ends ← get (codes "slice") d >>= pair_of
  Some (slice_step ends.0 ends.1)

unfoldable pub filter_of : Data → Option StepValue
filter_of d = do
  bits ← get (codes "filter") d >>= mask_of
  Some (filter_step bits)

-- by a column, where its type is flat
unfoldable pub filter_by_of : Data → Option StepValue
filter_by_of d = do
  column ← get (codes "filter_by") d >>= column_of >>= flat_of
  Some (filter_by_step column)

unfoldable pub take_of : Data → Option StepValue
take_of d = do
  indices ← get (codes "take") d >>= indices_of
  Some (take_step indices)

-- an object with one member
unfoldable pub step_of : Data → Option StepValue
step_of d =
    if is_closed (codes "slice" ∷ []) d then slice_of d
    else if is_closed (codes "filter" ∷ []) d then filter_of d
    else if is_closed (codes "filter_by" ∷ []) d then filter_by_of d
    else if is_closed (codes "take" ∷ []) d then take_of d
    else None

unfoldable pub steps_of : Data → Option (List StepValue)
steps_of d = as_array d >>= each step_of

-- ---- what the masks of filters keep

-- the mask of a filter with what it keeps beside its bits, where it selects some rows and not all;
-- none of another step
abbrev pub kept_by : Step → Option PartialMask
kept_by (Slice start end) = None
kept_by (Filter mask) = partial_of mask
kept_by (FilterBy column) = None
kept_by (Take indices) = None

-- a step, and that of it
abbrev pub StepSeen : Type 0
StepSeen = StepValue × Option PartialMask

abbrev pub step_seen : Step → StepSeen
step_seen s = (step_value s, kept_by s)

abbrev pub without_mask : Option StepValue → Option StepSeen
without_mask step = step >>= λ s. Some (s, None)

unfoldable pub filter_seen : Data → Option StepSeen
filter_seen d = do
  mask ← get (codes "filter") d >>= stated_mask
  Some (filter_step mask.0, mask.1)

-- the step, as `step_of` has it, and what its mask keeps as the document states it
unfoldable pub seen_of : Data → Option StepSeen
seen_of d =
    if is_closed (codes "slice" ∷ []) d then without_mask (slice_of d)
    else if is_closed (codes "filter" ∷ []) d then filter_seen d
    else if is_closed (codes "filter_by" ∷ []) d then without_mask (filter_by_of d)
    else if is_closed (codes "take" ∷ []) d then without_mask (take_of d)
    else None

-- for each step of a list what its mask keeps
unfoldable pub kept_of_steps : Data → Option (List (Option PartialMask))
kept_of_steps d = do
  steps ← as_array d >>= each seen_of
  Some (map (λ s. s.1) steps)
