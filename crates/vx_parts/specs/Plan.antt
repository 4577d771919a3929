-- What each part is asked, and in which order its rows stand.
use Rattle.std.specs.Prelude.{◌≡◌, ℕ, ◌+◌, ◌-◌, ◌<◌, ◌++◌, true, length, List, [], ◌∷◌, map, Option, Some, None, Vec, is_some, slice_index}
use Rattle.std.specs.List.{All, list_all}
use Rattle.std.specs.Option.{option_map}
use Rattle.std.specs.declared.alloc.Global.{Global}
use Rattle.vx_types.specs.declared.nullability.Nullability.TheVariants.{NonNullable}
use Rattle.vx_types.specs.TypeTree.{TypeTree}
use Rattle.vx_pieces.specs.Indices.{index_fault, index_nullability, index_picks}
use Rattle.vx_steps.specs.Step.{StepValue, filter_by_step, filter_step, slice_step, step_value, take_step}
use Rattle.vx_steps.specs.Walk.{walk, walk_picks}
use Rattle.vx_steps.specs.Answer.{type_after}
use Rattle.vx_steps.specs.Compose.{takes_nullability}
use Rattle.vx_interleave.specs.Places.{list_of}
use Rattle.vx_interleave.specs.declared.place.Place.{Place}
use Rattle.vx_parts.specs.Bounds.{bounds_of, end_of}
use Rattle.vx_parts.specs.Cuts.{CutValue, as_step, carried_by, cuts_of, from_take, own_cuts}
use Rattle.vx_parts.specs.Own.{AreCut, lists_in}
use Rattle.vx_parts.specs.declared.own.OwnPicks.{OwnPicks}
use Rattle.vx_parts.specs.declared.plan.PartPlan.{PartPlan}
use Rattle.vx_parts.specs.declared.plan.Plan.{Plan}

-- the steps of each part
abbrev pub steps_in : List PartPlan → List (List StepValue)
steps_in parts = map (λ (p : PartPlan). map step_value p.steps.items) parts

-- how many rows each part answers
abbrev pub lens_in : List PartPlan → List ℕ
lens_in parts = map (λ (p : PartPlan). p.len) parts

-- where the rows begin that the steps before the first take leave of each part, and where the last
-- ones end
abbrev pub left_bounds : List ℕ → List StepValue → List ℕ
left_bounds lengths steps = map (carried_by (cuts_of steps)) (bounds_of lengths)

-- a take of these positions of n rows, by indices of a type that has no nulls
abbrev pub IsTakeOf : ℕ → List ℕ → StepValue → Type 0
IsTakeOf n own (slice_step start end) = ⊥
IsTakeOf n own (filter_step bits) = ⊥
IsTakeOf n own (filter_by_step column) = ⊥
IsTakeOf n own (take_step indices) =
    (index_picks indices ≡ map Some own) × (index_fault indices n ≡ None)
    × (index_nullability indices ≡ NonNullable)

-- steps, and then such a take
pub record EndsWithTake (cuts : List StepValue) (n : ℕ) (own : List ℕ) (steps : List StepValue)
    : Type 0 where
  pub last : StepValue
  pub taken : IsTakeOf n own last
  pub steps_are : steps ≡ cuts ++ last ∷ []

-- the steps of a part, and how many rows it answers: slices and filters that leave n rows, and
-- where rows are picked a take of the part's own picks
abbrev pub AreOwn : List StepValue → ℕ → Option (List ℕ) → List StepValue → ℕ → Type 0
AreOwn cuts n None steps len = (steps ≡ cuts) × (len ≡ n)
AreOwn cuts n (Some own) steps len = EndsWithTake cuts n own steps × (len ≡ length own)

-- part k's own of each part's picks
abbrev pub own_at : Option (List (List ℕ)) → ℕ → Option (List ℕ)
own_at None k = None
own_at (Some own) k = Some (list_of own k)

-- each part's own picks are below the rows that are left of it
abbrev pub AreBelow : List ℕ → Option (List (List ℕ)) → Type 0
AreBelow left None = Unit {0}
AreBelow left (Some own) = (length own + 1 ≡ length left) × ((k : ℕ) → k < length own
    → All (λ p. p < slice_index left (k + 1) - slice_index left k) (list_of own k))

-- what part k is asked, by its bounds before the steps and after those before the first take
abbrev pub IsPartAt : List CutValue → List ℕ → List ℕ → Option (List (List ℕ)) → ℕ
    → List StepValue → ℕ → Type 0
IsPartAt cuts bounds left own k steps len = AreOwn
    (map as_step (own_cuts cuts (slice_index bounds k) (slice_index bounds (k + 1))))
    (slice_index left (k + 1) - slice_index left k) (own_at own k) steps len

-- what each of the parts is asked
abbrev pub ArePartsOf : List CutValue → List ℕ → List ℕ → Option (List (List ℕ))
    → List PartPlan → Type 0
ArePartsOf cuts bounds left own parts = (k : ℕ) → k < length parts
    → IsPartAt cuts bounds left own k (list_of (steps_in parts) k) (slice_index (lens_in parts) k)

-- the picks that steps leave, cut into each part's own
pub record ArePicked (left : List ℕ) (steps : List StepValue) (own : List (List ℕ))
    (order : List (Option Place)) : Type 0 where
  pub picks : List (Option ℕ)
  pub composed : walk (end_of left) steps ≡ walk_picks picks
  pub cut : AreCut left picks own order

-- the picks that steps leave, cut into each part's own, and no picks where there is no step
abbrev pub IsRest : List ℕ → List StepValue → Option (List (List ℕ))
    → Option (List (Option Place)) → Type 0
IsRest left [] None None = Unit {0}
IsRest left (s ∷ steps) (Some own) (Some order) = ArePicked left (s ∷ steps) own order
IsRest left steps own order = ⊥

-- each part's own of picks that are cut
abbrev pub own_in : Option OwnPicks → Option (List (List ℕ))
own_in rest = option_map (λ (cut : OwnPicks). lists_in cut.own.items) rest

-- where each row stands, of such picks
abbrev pub places_in : Option OwnPicks → Option (List (Option Place))
places_in rest = option_map (λ (cut : OwnPicks). cut.order.items) rest

-- where each row stands that a plan answers
abbrev pub order_in : Plan → Option (List (Option Place))
order_in plan = option_map (λ (v : Vec (Option Place) Global). v.items) plan.order

-- each row of an order has a place
abbrev pub AllPlaced : Option (List (Option Place)) → Type 0
AllPlaced None = Unit {0}
AllPlaced (Some order) = list_all is_some order ≡ true

-- steps break no rule over n rows, leave so many of them, and keep their type
pub record AreOwnSound (n : ℕ) (steps : List StepValue) (len : ℕ) : Type 0 where
  pub picks : List (Option ℕ)
  pub composed : walk n steps ≡ walk_picks picks
  pub left : length picks ≡ len
  pub typed : (t : TypeTree) → type_after t steps ≡ t

-- each part's own steps do so over its rows, of which they leave as many as its plan says
abbrev pub AreEachSound : List ℕ → List PartPlan → Type 0
AreEachSound lengths parts = (k : ℕ) → k < length lengths → AreOwnSound (slice_index lengths k)
    (list_of (steps_in parts) k) (slice_index (lens_in parts) k)

-- a plan of these steps over parts of these lengths
pub record IsPlan (lengths : List ℕ) (steps : List StepValue) (plan : Plan) : Type 0 where
  pub many : length plan.parts.items ≡ length lengths
  -- each part's own picks, where a step is a take
  pub own : Option (List (List ℕ))
  pub rest : IsRest (left_bounds lengths steps) (from_take steps) own (order_in plan)
  pub parts : ArePartsOf (cuts_of steps) (bounds_of lengths) (left_bounds lengths steps) own
      plan.parts.items
  pub nullability : plan.nullability ≡ takes_nullability steps
  -- no row is a null where no take may leave one
  pub told : plan.nullability ≡ NonNullable → AllPlaced (order_in plan)
