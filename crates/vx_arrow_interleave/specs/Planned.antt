-- The rows of each node, as they are planned.
use Rattle.std.specs.Prelude.{ℕ, ◌≡◌, ◌<◌, ◌++◌, ⊤, true, false, Vec, if◌then◌else◌, List, [], ◌∷◌, map, length, reverse, replicate, slice_index_or, Option, Some, None}
use Rattle.vx_arrow_image.specs.declared.format.Format.{Format}
use Rattle.vx_arrow_image.specs.declared.format.Format.TheVariants.{Text, Struct, List as Lists, FixedList, ListView, Union, DenseUnion}
use Rattle.vx_arrow_image.specs.declared.image.Need as needed
use Rattle.vx_arrow_image.specs.Image.{Part, holds_ids, ids_of, parts_of}
use Rattle.vx_arrow_interleave.specs.declared.planning.Below as belows_type
use Rattle.vx_arrow_interleave.specs.declared.planning.Below.TheVariants as below_is
use Rattle.vx_arrow_interleave.specs.declared.planning.Job as job_type
use Rattle.vx_arrow_interleave.specs.declared.planning.Measure as measures
use Rattle.vx_arrow_interleave.specs.declared.planning.Plan as plans
use Rattle.vx_arrow_interleave.specs.declared.planning.Planned as planned
use Rattle.vx_arrow_interleave.specs.declared.planning.Walk as walks
use Rattle.vx_arrow_interleave.specs.declared.sources.Group as groups
use Rattle.vx_arrow_interleave.specs.declared.spans.Span as spans
use Rattle.std.specs.declared.alloc.Global.{Global}
use Rattle.vx_arrow_columns.specs.Picks.{bytes_for}
use Rattle.vx_arrow_interleave.specs.Given.{belows, belows_by, fixed_items, given, items, need_of, needs_of, places, splits, values_len, view_items}
use Rattle.vx_arrow_interleave.specs.Sources.{part_at, shows_valid}
use Rattle.vx_arrow_interleave.specs.Spots.{Spot, spots}
use Rattle.vx_arrow_interleave.specs.Tested.{AreReadable, Holds}
use Rattle.vx_arrow_interleave.specs.TextViews.{ViewsOf}

-- how many tables there are
abbrev pub sources_in : List groups.Group → ℕ
sources_in [] = 0
sources_in (g ∷ gs) = length g.nodes.now

-- formats that are joined
abbrev pub IsCarried : Format → Type 0
IsCarried DenseUnion = ⊥
IsCarried f = ⊤

-- bytes of validity
abbrev pub valid_len : List Part → ℕ → ℕ
valid_len ps n = if shows_valid ps then bytes_for n else 0

-- the spans of the children of a job
abbrev pub below_in : Format → job_type.Job → Vec spans.Span Global
below_in Struct job = job.rows
below_in Union job = job.rows
below_in f job = job.items

-- the rows of the children of a job: the same, of formats where all children have these, or its own
-- of each
abbrev pub IsBelow : Format → List Part → job_type.Job → belows_type.Below → Type 0
IsBelow f ps job (below_is.Same v) = (splits (Some f) ≡ false) × (v ≡ below_in f job)
IsBelow f ps job (below_is.Split vs) =
    (splits (Some f) ≡ true)
    × (map (λ (v : Vec spans.Span Global). spots v.items) vs.items
    ≡ belows_by (Some f) ps (spots job.rows.items))

-- the lists of spans of n children
abbrev pub lists_in : ℕ → belows_type.Below → List (Vec spans.Span Global)
lists_in n (below_is.Same v) = replicate n v
lists_in n (below_is.Split vs) = vs.items

-- the nodes at each place
abbrev pub groups_of : List groups.Group → List (List Part)
groups_of gs = map (λ (g : groups.Group). parts_of g.nodes.now) gs

-- unions with ids, which are the same
pub record HaveSameIds (ps : List Part) : Type 0 where
  pub held : (s : ℕ) → s < length ps → holds_ids (part_at ps s) ≡ true
  pub ids : (s : ℕ) → s < length ps → ids_of (part_at ps s) ≡ ids_of (part_at ps 0)

-- the items of rows at places, of formats that have some
abbrev pub items_by : Option Format → List Part → List Spot → List Spot
items_by (Some (Text z)) ps ss = items z ps ss
items_by (Some (Lists z)) ps ss = items z ps ss
items_by (Some FixedList) ps ss = fixed_items (part_at ps 0).width ss
items_by (Some (ListView z)) ps ss = view_items z ps ss
items_by f ps ss = []

-- the lists of nodes hold rows at places
pub record IsMeasured (f : Option Format) (ps : List Part) (ss : List Spot) (m : measures.Measure)
    : Type 0 where
  pub held : Holds f ps ss
  pub items : spots m.items.items ≡ items_by f ps ss
  pub values : m.values ≡ values_len f ps ss

-- the rows that lists of spans have, the last list first
abbrev pub stack_of : walks.Walk → List (List Spot)
stack_of w = map (λ v. spots v.items) (reverse w.stack.items)

abbrev pub given_by : job_type.Job → List Spot
given_by job = spots job.spans.items

-- a job of nodes at one place, of m sources, and what it needs
pub record IsDone (m : ℕ) (ps : List Part) (job : job_type.Job) (need : needed.Need) : Type 0 where
  pub many : length ps ≡ m
  pub readable : AreReadable ps (given_by job)
  pub rows : spots job.rows.items ≡ places ps (given_by job)
  pub items : spots job.items.items ≡ items_by (part_at ps 0).format ps (places ps (given_by job))
  pub views : ViewsOf (part_at ps 0).format ps (places ps (given_by job)) job.views.items
  pub asked : need ≡ need_of ps (given_by job)

-- a job of nodes at one place at these rows, and the rows of each of their children
pub record IsPlannedJob (ps : List Part) (ss : List Spot) (p : planned.Planned) : Type 0 where
  pub given : given_by p.job ≡ ss
  pub done : IsDone (length ps) ps p.job p.need
  pub below : map (λ (v : Vec spans.Span Global). spots v.items)
      (lists_in (part_at ps 0).children p.below) ≡ belows ps ss

-- before the first nodes
pub record IsStart (ss : List Spot) (w : walks.Walk) : Type 0 where
  pub stack : stack_of w ≡ ss ∷ []
  pub jobs : w.jobs.items ≡ []
  pub needs : w.needs.items ≡ []

-- after nodes at one more place
pub record IsVisited (m : ℕ) (ps : List Part) (old new : walks.Walk) : Type 0 where
  pub job : job_type.Job
  pub need : needed.Need
  pub rest : List (List Spot)
  pub done : IsDone m ps job need
  pub popped : stack_of old ≡ given_by job ∷ rest
  pub pushed : stack_of new ≡ belows ps (given_by job) ++ rest
  pub jobs : new.jobs.items ≡ old.jobs.items ++ job ∷ []
  pub needs : new.needs.items ≡ old.needs.items ++ need ∷ []

-- which rows are left over behind tables of trees
abbrev pub left : List (List Part) → List (List Spot) → Option (List (List Spot))
left [] st = Some st
left (ps ∷ gs) [] = None
left (ps ∷ gs) (ss ∷ st) = left gs (belows ps ss ++ st)

-- the rows of each node of tables, each of which is one tree
pub record IsPlanned (m : ℕ) (gs : List (List Part)) (ss : List Spot) (plan : plans.Plan)
    : Type 0 where
  pub given : given gs (ss ∷ []) ≡ map given_by plan.jobs.items
  pub whole : left gs (ss ∷ []) ≡ Some []
  pub many : length plan.jobs.items ≡ length gs
  pub needs : plan.needs.items ≡ needs_of gs ss
  pub done : (k : ℕ) (d : job_type.Job) (n : needed.Need) → k < length gs
      → IsDone m (slice_index_or gs k []) (slice_index_or plan.jobs.items k d)
      (slice_index_or plan.needs.items k n)
