-- Walks over a table, and the plan that they leave.
use Rattle.std.specs.List.{All}
use Rattle.std.specs.Prelude.{ℕ, ◌+◌, ◌<◌, ◌≤◌, ◌≡◌, ◌==◌, ⊤, Bool, true, false, zero, suc, List, [], ◌∷◌, ◌++◌, map, take, drop, length, replicate, reverse, slice_index_or, if◌then◌else◌, Option, Some, None}
use Rattle.vx_arrow_image.specs.declared.format.Format.TheVariants.{Fixed}
use Rattle.vx_arrow_image.specs.declared.image.Node as image
use Rattle.vx_arrow_columns.specs.declared.faults.Fault.{Fault}
use Rattle.vx_arrow_columns.specs.declared.needs.Items as items_type
use Rattle.vx_arrow_columns.specs.declared.needs.Inner.{Inner}
use Rattle.vx_arrow_columns.specs.declared.needs.Inner.TheVariants as inners
use Rattle.vx_arrow_columns.specs.declared.places.Places as places
use Rattle.vx_arrow_columns.specs.declared.places.Places.TheVariants as variants
use Rattle.vx_arrow_columns.specs.declared.plan.JobPicks as job_picks
use Rattle.vx_arrow_columns.specs.declared.plan.JobPicks.TheVariants as kinds
use Rattle.vx_arrow_columns.specs.declared.plan.Job as job_type
use Rattle.vx_arrow_columns.specs.declared.plan.Measured as measured
use Rattle.vx_arrow_columns.specs.declared.plan.Plan as plans
use Rattle.vx_arrow_columns.specs.declared.plan.Walk as walks
use Rattle.vx_arrow_image.specs.Image.{Part, part_of, parts_of}
use Rattle.vx_arrow_columns.specs.Asked.{the_picking, the_run_picking}
use Rattle.vx_arrow_columns.specs.Measured.{IsInner, list_places, list_valid}
use Rattle.vx_arrow_columns.specs.Picks.{Picking, all_rows, belows, picking_of, need_of, needs_of, pickings}
use Rattle.vx_arrow_columns.specs.Sound.{AsksBelow, IsJobFault, IsSoundAt}
use Rattle.vx_arrow_columns.specs.Taken.{AreInside, AreWithin, IsReadable}

-- how many rows each tree of a table has
unfoldable pub tree_lens : List Part → List ℕ
tree_lens [] = []
tree_lens (p ∷ ps) = p.len ∷ drop p.children (tree_lens ps)

-- how many rows each child of a node has, which stands before these
abbrev pub child_lens : Part → List Part → List ℕ
child_lens p ps = take p.children (tree_lens ps)

-- the list of a job is among so many
abbrev pub IsListed : job_type.Job → ℕ → Type 0
IsListed job n = (k : ℕ) → job.list ≡ Some k → k < n

abbrev pub places_in : List places.Places → ℕ → List ℕ
places_in lists k = slice_index_or (map list_places lists) k []

abbrev pub valid_in : List places.Places → ℕ → List ℕ
valid_in lists k = slice_index_or (map list_valid lists) k []

abbrev pub picking_by : List ℕ → List ℕ → List places.Places → Option ℕ → ℕ → Picking
picking_by ps vs lists None add = picking_of ps vs add
picking_by ps vs lists (Some k) add = picking_of (places_in lists k) (valid_in lists k) add

-- the picks of a job, where these are the caller's
unfoldable pub picking_in : List ℕ → List ℕ → List places.Places → job_type.Job → Picking
picking_in ps vs lists job =
    if job.kept then all_rows else picking_by ps vs lists job.list job.add

-- whether picks of a child are runs
abbrev pub are_runs : places.Places → Bool
are_runs (variants.Each l) = false
are_runs (variants.Runs rs) = true

-- whether those of a job are
abbrev pub runs_in : List places.Places → Option ℕ → Bool
runs_in lists None = false
runs_in lists (Some k) = slice_index_or (map are_runs lists) k false

-- runs serve a node: its values have a fixed width, and none is null
abbrev pub IsPlain : Part → Type 0
IsPlain p = (p.format ≡ Some Fixed) × (p.valid ≡ [])

-- the picks of a job are runs only where these serve the node
abbrev pub Fits : Part → List places.Places → job_type.Job → Type 0
Fits p lists job = runs_in lists job.list ≡ true → IsPlain p

-- the picks q, which are runs or not
abbrev pub ArePicks : Picking → Bool → job_picks.JobPicks → Type 0
ArePicks q runs kinds.Kept = q ≡ all_rows
ArePicks q runs (kinds.Runs r) = (the_run_picking r ≡ q) × (runs ≡ true)
ArePicks q runs (kinds.Each r) = the_picking r ≡ q

-- the job of a node, with the picks that it had
pub record IsSettled (p : Part) (job : job_type.Job) (old new : List places.Places)
    (next : job_type.Job) : Type 0 where
  pub more : List places.Places
  pub grown : new ≡ old ++ more
  pub listed : IsListed next (length new)
  pub picks : (ps vs : List ℕ) → picking_in ps vs new next ≡ picking_in ps vs old job
  pub end : next.end ≡ job.end
  pub fits : Fits p new next

-- a job whose list is there, and whose picks are below its end
pub record IsSound (ps vs : List ℕ) (lists : List places.Places) (job : job_type.Job) : Type 0 where
  pub listed : IsListed job (length lists)
  pub within : AreWithin (picking_in ps vs lists job).picks job.end

-- the job `next` of a node's children comes from its own, and lists are added at most
pub record IsNext (node : image.Node) (job : job_type.Job) (inside : Inner)
    (old new : List places.Places) (next : job_type.Job) : Type 0 where
  pub more : List places.Places
  pub grown : new ≡ old ++ more
  pub listed : IsListed job (length old) → IsListed next (length new)
  pub within : (ps vs : List ℕ) → AreWithin (picking_in ps vs old job).picks job.end
      → AreWithin (picking_in ps vs old job).picks node.len
      → IsInner (part_of node) (picking_in ps vs old job) inside
      → AreWithin (picking_in ps vs new next).picks next.end
  pub picks : (ps vs : List ℕ) → AreWithin (picking_in ps vs old job).picks node.len
      → IsInner (part_of node) (picking_in ps vs old job) inside
      → replicate node.children (picking_in ps vs new next)
      ≡ belows (part_of node) (picking_in ps vs old job)
  pub far : (ps vs : List ℕ) (lens : List ℕ) → length lens ≡ node.children
      → IsInner (part_of node) (picking_in ps vs old job) inside
      → AsksBelow (part_of node) lens inside
      → (j : ℕ) → j < node.children → next.end ≤ slice_index_or lens j 0

-- the job of picks of its own
pub record IsListedJob (lists : List places.Places) (job : job_type.Job) (i : items_type.Items)
    : Type 0 where
  pub listed : IsListed job (length lists)
  pub picks : (ps vs : List ℕ) → picking_in ps vs lists job
      ≡ picking_of (list_places i.list) (list_valid i.list) 0
  pub end : job.end ≡ i.end

-- the jobs `nexts` of a node's children, in order, come from its own, and lists are added at most
pub record AreNexts (node : image.Node) (job : job_type.Job) (inside : Inner)
    (old new : List places.Places) (nexts : List job_type.Job) : Type 0 where
  pub more : List places.Places
  pub grown : new ≡ old ++ more
  pub count : length nexts ≡ node.children
  pub sound : (ps vs : List ℕ) → IsSound ps vs old job
      → AreWithin (picking_in ps vs old job).picks node.len
      → IsInner (part_of node) (picking_in ps vs old job) inside
      → All (IsSound ps vs new) nexts
  pub picks : (ps vs : List ℕ) → AreWithin (picking_in ps vs old job).picks node.len
      → IsInner (part_of node) (picking_in ps vs old job) inside
      → map (picking_in ps vs new) nexts ≡ belows (part_of node) (picking_in ps vs old job)
  pub far : (ps vs : List ℕ) (lens : List ℕ) → length lens ≡ node.children
      → IsInner (part_of node) (picking_in ps vs old job) inside
      → AsksBelow (part_of node) lens inside → (j : ℕ) (d : job_type.Job) → j < node.children
      → (slice_index_or nexts j d).end ≤ slice_index_or lens j 0

-- the jobs of these picks are pushed, the first child's last, and their lists
pub record AreSplitJobs (items : List items_type.Items) (old new : List places.Places)
    (stack pushed : List job_type.Job) : Type 0 where
  pub nexts : List job_type.Job
  pub more : List places.Places
  pub grown : new ≡ old ++ more
  pub stack_is : pushed ≡ stack ++ reverse nexts
  pub count : length nexts ≡ length items
  pub are : (j : ℕ) (d : job_type.Job) (e : items_type.Items) → j < length items
      → IsListedJob new (slice_index_or nexts j d) (slice_index_or items j e)

-- there are picks for each of so many children, where each has its own
abbrev pub HasEach : Inner → ℕ → Type 0
HasEach (inners.Split items) n = length items.items ≡ n
HasEach inside n = ⊤

-- the jobs of a node's children are pushed
pub record IsPushed (node : image.Node) (job : job_type.Job) (inside : Inner)
    (old new : List places.Places) (stack pushed : List job_type.Job) : Type 0 where
  pub nexts : List job_type.Job
  pub stack_is : pushed ≡ stack ++ reverse nexts
  pub nexts_are : AreNexts node job inside old new nexts

-- the rows at picks can be read, before these nodes, if they aren't kept
pub record IsRead (p : Part) (q : Picking) (behind : List Part) : Type 0 where
  pub within : AreWithin q.picks p.len
  pub readable : q.kept ≡ false → IsReadable p q.picks
  pub inside : q.kept ≡ false → AreInside p q.picks (child_lens p behind)

-- they can, and what they need is this
pub record IsJobMeasured (p : Part) (q : Picking) (behind : List Part) (m : measured.Measured)
    : Type 0 where
  pub read : IsRead p q behind
  pub need : m.need ≡ need_of p q
  pub children : IsInner p q m.inner
  pub asks : (lens : List ℕ) → (q.kept ≡ false → IsSoundAt p q.picks lens)
      → AsksBelow p lens m.inner

-- so they can at runs of places, before any nodes
abbrev pub IsRunMeasured : Part → Picking → measured.Measured → Type 0
IsRunMeasured p q m = (behind : List Part) → IsJobMeasured p q behind m

-- they can't, whatever the nodes behind are
abbrev pub IsRunFault : Part → Picking → ℕ → Fault → Type 0
IsRunFault p q end e = (lens : List ℕ) → IsJobFault p q lens end e

-- how many rows the first node has
abbrev pub first_len : List image.Node → ℕ
first_len [] = 0
first_len (n ∷ nodes) = n.len

-- the jobs to come are sound
abbrev pub IsWalking : List ℕ → List ℕ → walks.Walk → Type 0
IsWalking ps vs w = All (IsSound ps vs w.lists.items) w.stack.items

-- before the first node: the caller's picks
pub record IsStart (end : ℕ) (w : walks.Walk) : Type 0 where
  pub jobs : w.jobs.items ≡ []
  pub lists : w.lists.items ≡ []
  pub needs : w.needs.items ≡ []
  pub stack : w.stack.items ≡ record { list = None; add = 0; end = end; kept = false } ∷ []

-- a node before these was gone over
pub record IsVisited (ps vs : List ℕ) (node : image.Node) (behind : List image.Node)
    (old new : walks.Walk) : Type 0 where
  pub job : job_type.Job
  pub next : job_type.Job
  pub nexts : List job_type.Job
  pub inside : Inner
  pub rest : List job_type.Job
  pub popped : old.stack.items ≡ rest ++ job ∷ []
  pub few : node.children + length rest ≤ length behind
  pub stack : new.stack.items ≡ rest ++ reverse nexts
  pub jobs : new.jobs.items ≡ old.jobs.items ++ next ∷ []
  pub picks : picking_in ps vs new.lists.items next ≡ picking_in ps vs old.lists.items job
  pub listed : IsListed next (length new.lists.items)
  pub fits : Fits (part_of node) new.lists.items next
  pub needs : new.needs.items
      ≡ old.needs.items ++ need_of (part_of node) (picking_in ps vs old.lists.items job) ∷ []
  pub nexts_are : AreNexts node job inside old.lists.items new.lists.items nexts
  pub read : IsRead (part_of node) (picking_in ps vs old.lists.items job) (parts_of behind)
  pub inner_is : IsInner (part_of node) (picking_in ps vs old.lists.items job) inside
  pub asks : (lens : List ℕ) → ((picking_in ps vs old.lists.items job).kept ≡ false
      → IsSoundAt (part_of node) (picking_in ps vs old.lists.items job).picks lens)
      → AsksBelow (part_of node) lens inside

-- a table of whole trees, as many as n
abbrev pub are_trees : List Part → ℕ → Bool
are_trees [] n = n == 0
are_trees (p ∷ ps) zero = false
are_trees (p ∷ ps) (suc n) = are_trees ps (p.children + n)

-- each node has its picks, which it can be read at, and its need
pub record IsPlanned (parts : List Part) (ps vs : List ℕ) (plan : plans.Plan) : Type 0 where
  pub tree : are_trees parts 1 ≡ true
  pub len : length plan.jobs.items ≡ length parts
  pub picks : map (picking_in ps vs plan.lists.items) plan.jobs.items
      ≡ pickings parts (picking_of ps vs 0 ∷ [])
  pub needs : plan.needs.items ≡ needs_of parts (picking_of ps vs 0)
  pub listed : All (λ job. IsListed job (length plan.lists.items)) plan.jobs.items
  pub read : (k : ℕ) (d : job_type.Job) (e : Part) → k < length plan.jobs.items
      → IsRead (slice_index_or parts k e)
      (picking_in ps vs plan.lists.items (slice_index_or plan.jobs.items k d))
      (drop (k + 1) parts)
  pub fits : (k : ℕ) (d : job_type.Job) (e : Part) → k < length plan.jobs.items
      → Fits (slice_index_or parts k e) plan.lists.items (slice_index_or plan.jobs.items k d)
