-- What a node has to hold for its rows at picks to have a meaning, and what a fault says of it.
use Rattle.std.specs.List.{list_all}
use Rattle.std.specs.Prelude.{ℕ, ◌+◌, ◌*◌, ◌<◌, ◌≤◌, ◌≡◌, ⊤, true, false, List, length, nat_le, slice_index, slice_index_or, Option, Some, None}
use Rattle.vx_arrow_image.specs.declared.format.Format.{Format}
use Rattle.vx_arrow_image.specs.declared.format.Format.TheVariants.{Nulls, Bits, Fixed, Text, Struct, List as Lists, FixedList, TextView, ListView, Union, DenseUnion}
use Rattle.vx_arrow_image.specs.declared.refusal.Refusal.{Refusal}
use Rattle.vx_arrow_image.specs.declared.refusal.Refusal.TheVariants as refusals
use Rattle.vx_arrow_image.specs.Image.{Part, is_dense, is_list_view, is_placed, is_view}
use Rattle.vx_arrow_columns.specs.declared.faults.Fault.{Fault}
use Rattle.vx_arrow_columns.specs.declared.faults.Fault.TheVariants as faults
use Rattle.vx_arrow_columns.specs.declared.needs.Items as items_type
use Rattle.vx_arrow_columns.specs.declared.needs.Inner.{Inner}
use Rattle.vx_arrow_columns.specs.declared.needs.Inner.TheVariants as inners
use Rattle.vx_arrow_columns.specs.Picks.{Picking, is_counted, picks_of}
use Rattle.vx_arrow_columns.specs.Taken.{AllAt, AreCutAt, Holds}

-- the children, which have so many rows, have those that the rows at picks reach
abbrev pub HoldsBelow : Option Format → Part → List (Option ℕ) → List ℕ → Type 0
HoldsBelow None p q lens = ⊥
HoldsBelow (Some Nulls) p q lens = ⊤
HoldsBelow (Some Bits) p q lens = ⊤
HoldsBelow (Some Fixed) p q lens = ⊤
HoldsBelow (Some (Text z)) p q lens = ⊤
HoldsBelow (Some Struct) p q lens = list_all (λ n. nat_le (p.offset + p.len) n) lens ≡ true
HoldsBelow (Some (Lists z)) p q lens = AreCutAt z p q (slice_index lens 0)
HoldsBelow (Some FixedList) p q lens = (p.offset + p.len) * p.width ≤ slice_index lens 0
HoldsBelow (Some TextView) p q lens = AllAt p q (is_view p lens)
HoldsBelow (Some (ListView z)) p q lens = AllAt p q (is_list_view z p (slice_index lens 0))
HoldsBelow (Some Union) p q lens = list_all (λ n. nat_le (p.offset + p.len) n) lens ≡ true
HoldsBelow (Some DenseUnion) p q lens = AllAt p q (is_dense p lens)

-- a node is sound over children that have so many rows, as far as its rows at picks go
pub record IsSoundAt (p : Part) (q : List (Option ℕ)) (lens : List ℕ) : Type 0 where
  pub placed : is_placed p ≡ true
  pub held : Holds p.format p q
  pub below : HoldsBelow p.format p q lens

-- what a fault says: this where something is lacking, and that where rows are too many
abbrev pub IsFault : Type 0 → Type 0 → Fault → Type 0
IsFault lacks many (faults.Lacks lack) = lacks
IsFault lacks many faults.Overflow = many
IsFault lacks many faults.NoMemory = ⊤

-- the same of the node with a number
abbrev pub refusal_at : Fault → ℕ → Refusal
refusal_at (faults.Lacks lack) node = refusals.NoMeaning node lack
refusal_at faults.Overflow node = refusals.Overflow node
refusal_at faults.NoMemory node = refusals.NoMemory

-- the rows at picks are not there, or too many
abbrev pub IsNodeFault : Part → List (Option ℕ) → List ℕ → Fault → Type 0
IsNodeFault p q lens = IsFault (IsSoundAt p q lens → ⊥) (is_counted p q ≡ false)

-- the same where the parent asks for so many rows
abbrev pub IsAskedFault : Part → List (Option ℕ) → List ℕ → ℕ → Fault → Type 0
IsAskedFault p q lens end =
    IsFault (IsSoundAt p q lens → end ≤ p.len → ⊥) (is_counted p q ≡ false)

-- the node's own numbers aren't those of a node, or it has fewer rows than its parent asks for
abbrev pub IsTestFault : Part → ℕ → Fault → Type 0
IsTestFault p end =
    IsFault ((q : List (Option ℕ)) → (lens : List ℕ) → IsSoundAt p q lens → end ≤ p.len → ⊥) ⊥

-- the children, which have so many rows, do not hold them
abbrev pub IsBelowFault : Part → List (Option ℕ) → List ℕ → Fault → Type 0
IsBelowFault p q lens = IsFault (HoldsBelow p.format p q lens → ⊥) ⊥

-- the lists of the node's own do not hold them, or they are too many
abbrev pub IsOwnFault : Part → List (Option ℕ) → Fault → Type 0
IsOwnFault p q = IsFault (Holds p.format p q → ⊥) (is_counted p q ≡ false)

-- the same at any places, as many as n
abbrev pub IsCountFault : Part → ℕ → Fault → Type 0
IsCountFault p n e =
    (ps vs : List ℕ) → (add : ℕ) → length ps ≡ n → IsOwnFault p (picks_of ps vs add) e

-- the picks of the children are below what these, which have so many rows, have where p is sound
abbrev pub AsksBelow : Part → List ℕ → Inner → Type 0
AsksBelow p lens inners.Leaf = ⊤
AsksBelow p lens inners.Same = list_all (λ n. nat_le (p.offset + p.len) n) lens ≡ true
AsksBelow p lens (inners.Listed items) = items.end ≤ slice_index lens 0
AsksBelow p lens (inners.Split items) =
    (j : ℕ) (d : items_type.Items) → j < length items.items
    → (slice_index_or items.items j d).end ≤ slice_index lens j
AsksBelow p lens inners.Kept = ⊤

-- of a node at the picks of a job whose parent asks for so many rows
abbrev pub IsJobFault : Part → Picking → List ℕ → ℕ → Fault → Type 0
IsJobFault p q lens end =
    IsFault ((q.kept ≡ false → IsSoundAt p q.picks lens) → end ≤ p.len → ⊥)
    (is_counted p q.picks ≡ false)
