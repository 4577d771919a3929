-- What the tests of one node at picks find.
use Rattle.std.specs.Option.{option_map}
use Rattle.std.specs.Prelude.{ℕ, [], ◌+◌, ◌^◌, ◌<◌, ◌≤◌, ◌≡◌, false, List, length, slice_index_or, Option, Some, None, is_some, map, replicate}
use Rattle.vx_arrow_image.specs.declared.format.Format.TheVariants.{DenseUnion}
use Rattle.vx_arrow_image.specs.declared.format.Offsets.{Offsets}
use Rattle.vx_arrow_columns.specs.declared.needs.Inner.{Inner}
use Rattle.vx_arrow_columns.specs.declared.needs.Inner.TheVariants as inners
use Rattle.vx_arrow_columns.specs.declared.dense.Rows as dense
use Rattle.vx_arrow_columns.specs.declared.needs.Items as items_type
use Rattle.vx_arrow_columns.specs.declared.needs.Measure as measures
use Rattle.vx_arrow_columns.specs.declared.places.Places as lists
use Rattle.vx_arrow_columns.specs.declared.places.Places.TheVariants as variants
use Rattle.vx_arrow_image.specs.Image.{Part, is_valid, limit_of}
use Rattle.vx_arrow_columns.specs.Picks.{Picking, all_rows, below, belows, dense_picking, splits, dense_rows, has_bits, picking_of, picks_of, fixed_item, items_len, items_of, values_len, inner}
use Rattle.vx_arrow_columns.specs.Sound.{AsksBelow, IsSoundAt}
use Rattle.vx_arrow_columns.specs.Taken.{AreCutAt, AreWithin, IsReadable}
use Rattle.vx_runs.specs.Runs.{run_places}

-- the places of a child's picks
abbrev pub list_places : lists.Places → List ℕ
list_places (variants.Each l) = l.places.items
list_places (variants.Runs rs) = run_places rs.items

-- and their bits of validity
abbrev pub list_valid : lists.Places → List ℕ
list_valid (variants.Each l) = l.valid.items
list_valid (variants.Runs rs) = []

-- n are the items at picks, or the bytes of the texts, cut from so many, and can be counted
pub record IsItemsLen (z : Offsets) (p : Part) (q : List (Option ℕ)) (count n : ℕ)
    : Type 0 where
  pub cut : AreCutAt z p q count
  pub len : n ≡ items_len z p q
  pub small : n < limit_of z

-- each place is below the end
pub record AreBelow (places : List ℕ) (end : ℕ) : Type 0 where
  pub below : (k : ℕ) → k < length places → slice_index_or places k 0 < end

-- these are the places of the items of the lists at picks, and can be counted
pub record AreItems (z : Offsets) (p : Part) (q : List (Option ℕ)) (places : List ℕ) (end : ℕ)
    : Type 0 where
  pub cut : AreCutAt z p q (limit_of z)
  pub items : places ≡ items_of z p q
  pub small : items_len z p q < limit_of z
  pub below : AreBelow places end
  pub reached : (n : ℕ) → AreCutAt z p q n → end ≤ n

-- these are the places of n items of lists of a fixed size, where they are there
pub record AreItemPlaces (p : Part) (q : List (Option ℕ)) (n : ℕ) (places : List ℕ) : Type 0 where
  pub len : length places ≡ n
  pub are : (m x : ℕ) → m < n → fixed_item p q m ≡ Some x → slice_index_or places m 0 ≡ x

-- the end of places that were below `end`, with one more
pub record IsEndAfter (end : ℕ) (place : Option ℕ) (after : ℕ) : Type 0 where
  pub none : place ≡ None → after ≡ end
  pub up : end ≤ after
  pub above : (x : ℕ) → place ≡ Some x → x < after
  pub least : (n : ℕ) → end ≤ n → ((x : ℕ) → place ≡ Some x → x < n) → after ≤ n

-- these places are those of a list of picks, 0 for a null one, below an end that they reach
pub record ArePlaced (l : List (Option ℕ)) (places : List ℕ) (end : ℕ) : Type 0 where
  pub len : length places ≡ length l
  pub are : (m x : ℕ) → m < length l → slice_index_or l m None ≡ Some x
      → slice_index_or places m 0 ≡ x
  pub within : AreWithin l end
  pub reached : (n : ℕ) → AreWithin l n → end ≤ n

-- these are the places of the rows of child j of a dense union at picks
abbrev pub AreRowsOf : Part → List (Option ℕ) → ℕ → dense.Rows → Type 0
AreRowsOf p q j r = ArePlaced (dense_rows p q j) r.places.items r.end

-- these bits say which of them are there; there are none where the picks have none
pub record AreShownOf (p : Part) (q : List (Option ℕ)) (j : ℕ) (valid bits : List ℕ)
    : Type 0 where
  pub some : has_bits bits ≡ has_bits valid
  pub shows : (m : ℕ) → m < length (dense_rows p q j)
      → is_valid bits m ≡ is_some (slice_index_or (dense_rows p q j) m None)

-- these are the picks of one child, below an end
pub record IsDenseItem (p : Part) (q : Picking) (j : ℕ) (i : items_type.Items) : Type 0 where
  pub picks : picking_of (list_places i.list) (list_valid i.list) 0 ≡ dense_picking p q j
  pub within : AreWithin (dense_rows p q.picks j) i.end
  pub reached : (n : ℕ) → AreWithin (dense_rows p q.picks j) n → i.end ≤ n

-- these are the picks of the first n children
pub record AreDenseItems (p : Part) (q : Picking) (n : ℕ) (items : List items_type.Items)
    : Type 0 where
  pub len : length items ≡ n
  pub are : (j : ℕ) (d : items_type.Items) → j < n → IsDenseItem p q j (slice_index_or items j d)

-- the picks of the only child are at these places, all below the end
pub record AreListed (p : Part) (q : Picking) (places valid : List ℕ) (end : ℕ) : Type 0 where
  pub one : p.children ≡ 1
  pub same : splits p.format ≡ false
  pub listed : below p q ≡ picking_of places valid 0
  pub within : AreWithin (picks_of places valid 0) end

-- picks so far further on
abbrev pub moved : ℕ → Picking → Picking
moved by q =
    record {
      picks = map (option_map (λ i. by + i)) q.picks;
      nullable = q.nullable;
      kept = false;
    }

-- the picks of the children are these
abbrev pub IsInner : Part → Picking → Inner → Type 0
IsInner p q inners.Leaf = p.children ≡ 0
IsInner p q inners.Same =
    (inner p q ≡ moved p.offset q)
    × (q.kept ≡ false)
    × (p.offset + p.len < 2 ^ 60)
    × (splits p.format ≡ false)
IsInner p q (inners.Listed items) =
    AreListed p q (list_places items.list) (list_valid items.list) items.end
IsInner p q (inners.Split items) =
    (q.kept ≡ false) × (p.format ≡ Some DenseUnion) × AreDenseItems p q p.children items.items
IsInner p q inners.Kept = belows p q ≡ replicate p.children all_rows

-- so many bytes of values, of a node that has no children
pub record IsLeaf (p : Part) (values : ℕ) (m : measures.Measure) : Type 0 where
  pub leaf : p.children ≡ 0
  pub values_are : m.values ≡ values
  pub inner_is : m.inner ≡ inners.Leaf

-- the rows at picks can be read, and what they need is this
pub record IsMeasured (p : Part) (q : Picking) (m : measures.Measure) : Type 0 where
  pub readable : IsReadable p q.picks
  pub values : m.values ≡ values_len p.format p q.picks
  pub children : IsInner p q m.inner
  pub asks : (lens : List ℕ) → IsSoundAt p q.picks lens → AsksBelow p lens m.inner

-- the same at any places, as many as n
abbrev pub AreMeasured : Part → ℕ → measures.Measure → Type 0
AreMeasured p n m =
    (ps vs : List ℕ) → (add : ℕ) → length ps ≡ n → AreWithin (picks_of ps vs add) p.len
    → IsMeasured p (picking_of ps vs add) m
