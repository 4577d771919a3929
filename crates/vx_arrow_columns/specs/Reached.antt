-- Tables whose rows at picks have a meaning, and why a walk over one stops.
use Rattle.std.specs.Prelude.{ℕ, ◌+◌, ◌<◌, ◌≤◌, ◌≡◌, true, false, List, [], ◌∷◌, ◌++◌, drop, length, slice_index_or}
use Rattle.vx_arrow_image.specs.declared.image.Node as image
use Rattle.vx_arrow_columns.specs.declared.faults.Fault.{Fault}
use Rattle.vx_arrow_columns.specs.declared.plan.Job as job_type
use Rattle.vx_arrow_columns.specs.declared.plan.Walk as walks
use Rattle.vx_arrow_image.specs.Image.{Part, part_of, parts_of}
use Rattle.vx_arrow_columns.specs.Picks.{Picking, is_counted, pickings}
use Rattle.vx_arrow_columns.specs.Planned.{are_trees, child_lens, picking_in}
use Rattle.vx_arrow_columns.specs.Sound.{IsFault, IsSoundAt}

-- each node that isn't kept is, at its picks
pub record AreSoundAt (parts : List Part) (q : Picking) : Type 0 where
  pub tree : are_trees parts 1 ≡ true
  pub sound : (k : ℕ) (d : Part) (r : Picking) → k < length parts
      → (slice_index_or (pickings parts (q ∷ [])) k r).kept ≡ false
      → IsSoundAt (slice_index_or parts k d) (slice_index_or (pickings parts (q ∷ [])) k r).picks
      (child_lens (slice_index_or parts k d) (drop (k + 1) parts))

-- the rows of node k at its picks can't be counted
pub record IsUncounted (parts : List Part) (q : Picking) (k : ℕ) : Type 0 where
  pub there : k < length parts
  pub many : (d : Part) (r : Picking)
      → is_counted (slice_index_or parts k d) (slice_index_or (pickings parts (q ∷ [])) k r).picks
      ≡ false

-- the rows of a node at the next picks of a walk can't be counted
pub record IsCrowded (ps vs : List ℕ) (node : image.Node) (old : walks.Walk) : Type 0 where
  pub job : job_type.Job
  pub rest : List job_type.Job
  pub popped : old.stack.items ≡ rest ++ job ∷ []
  pub many : is_counted (part_of node) (picking_in ps vs old.lists.items job).picks ≡ false

-- no picks are left for a node before these, too few nodes are, or there is a fault at its picks
abbrev pub IsVisitFault : List ℕ → List ℕ → image.Node → List image.Node → walks.Walk → Fault
    → Type 0
IsVisitFault ps vs node behind old =
    IsFault ((job : job_type.Job) → (rest : List job_type.Job)
    → old.stack.items ≡ rest ++ job ∷ [] → node.children + length rest ≤ length behind
    → ((picking_in ps vs old.lists.items job).kept ≡ false
    → IsSoundAt (part_of node) (picking_in ps vs old.lists.items job).picks
    (child_lens (part_of node) (parts_of behind)))
    → job.end ≤ node.len → ⊥)
    (IsCrowded ps vs node old)
