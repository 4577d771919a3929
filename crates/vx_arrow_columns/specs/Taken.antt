-- What a node has to hold for its rows at picks, and what is taken of it.
use Rattle.std.specs.Prelude.{ℕ, ◌+◌, ◌*◌, ◌^◌, ◌<◌, ◌≤◌, ◌≡◌, ◌==◌, ⊤, Bool, true, List, [], map, take, drop, length, slice_index_or, slice_range, Option, Some, None, is_some, slice_index, false}
use Rattle.std.specs.Int.{bit_at}
use Rattle.std.specs.List.{flat_map}
use Rattle.vx_arrow_image.specs.declared.format.Format.{Format}
use Rattle.vx_arrow_image.specs.declared.format.Format.TheVariants.{Nulls, Bits, Fixed, Text, Struct, List as Lists, FixedList, TextView, ListView, Union, DenseUnion}
use Rattle.vx_arrow_image.specs.declared.format.Offsets.{Offsets}
use Rattle.vx_arrow_image.specs.declared.format.Offsets.TheVariants.{Short}
use Rattle.vx_arrow_image.specs.Rows.{RowValue, null, picked}
use Rattle.vx_arrow_image.specs.Image.{Part, bit_of, is_valid, is_placed, holds_offsets, holds_starts, is_cut, is_list_view, is_view, limit_of, offset_at, is_sound, column_of, has_child, holds_ids}
use Rattle.vx_arrow_columns.specs.Picks.{Picking, dense_child, dense_rows, place_of, inners, is_counted, items_len, keeps, tags}

-- each pick is null or below n
pub record AreWithin (picks : List (Option ℕ)) (n : ℕ) : Type 0 where
  pub below : (k i : ℕ) → k < length picks → slice_index_or picks k None ≡ Some i → i < n

-- there are offsets, and the items of the rows at picks stand in order among so many
pub record AreCutAt (z : Offsets) (p : Part) (q : List (Option ℕ)) (count : ℕ) : Type 0 where
  pub held : holds_offsets z p ≡ true
  pub cut : (k i : ℕ) → k < length q → place_of p (slice_index_or q k None) ≡ Some i
      → is_cut z p count i ≡ true

-- there are offsets, and the items of the rows at picks stand in order
pub record AreOrdered (z : Offsets) (p : Part) (q : List (Option ℕ)) : Type 0 where
  pub held : holds_offsets z p ≡ true
  pub ordered : (k i : ℕ) → k < length q → place_of p (slice_index_or q k None) ≡ Some i
      → offset_at z p.offsets i ≤ offset_at z p.offsets (i + 1)

-- it holds of each row at picks
pub record AllAt (p : Part) (q : List (Option ℕ)) (f : ℕ → Bool) : Type 0 where
  pub all : (k i : ℕ) → k < length q → place_of p (slice_index_or q k None) ≡ Some i
      → f i ≡ true

-- its own lists hold the rows at picks
abbrev pub Holds : Option Format → Part → List (Option ℕ) → Type 0
Holds None p q = ⊥
Holds (Some Nulls) p q = p.children ≡ 0
Holds (Some Bits) p q = (p.children ≡ 0) × (p.offset + p.len ≤ 8 * length p.values)
Holds (Some Fixed) p q = (p.children ≡ 0) × ((p.offset + p.len) * p.width ≤ length p.values)
Holds (Some (Text z)) p q = (p.children ≡ 0) × AreCutAt z p q (length p.values)
Holds (Some Struct) p q = ⊤
Holds (Some (Lists z)) p q = (p.children ≡ 1) × AreCutAt z p q (limit_of z)
Holds (Some FixedList) p q = (p.children ≡ 1) × ((p.offset + p.len) * p.width < 2 ^ 60)
Holds (Some TextView) p q = 16 * (p.offset + p.len) ≤ length p.values
Holds (Some (ListView z)) p q =
    (p.children ≡ 1)
    × (holds_starts z p.offsets (p.offset + p.len) ≡ true)
    × (holds_starts z p.sizes (p.offset + p.len) ≡ true)
Holds (Some Union) p q = (holds_ids p ≡ true) × AllAt p q (has_child p)
Holds (Some DenseUnion) p q =
    (holds_ids p ≡ true)
    × (holds_starts Short p.offsets (p.offset + p.len) ≡ true)
    × AllAt p q (has_child p)

-- the rows of a node at picks can be read and written, where its children have theirs
pub record IsReadable (p : Part) (q : List (Option ℕ)) : Type 0 where
  pub placed : is_placed p ≡ true
  pub within : AreWithin q p.len
  pub counted : is_counted p q ≡ true
  pub held : Holds p.format p q

-- all formats but nulls and unions have a validity
abbrev pub IsNullable : Option Format → Type 0
IsNullable None = ⊥
IsNullable (Some Nulls) = ⊥
IsNullable (Some Bits) = ⊤
IsNullable (Some Fixed) = ⊤
IsNullable (Some (Text z)) = ⊤
IsNullable (Some Struct) = ⊤
IsNullable (Some (Lists z)) = ⊤
IsNullable (Some FixedList) = ⊤
IsNullable (Some TextView) = ⊤
IsNullable (Some (ListView z)) = ⊤
IsNullable (Some Union) = ⊥
IsNullable (Some DenseUnion) = ⊥

-- what row i reaches lies within children that have so many rows, where these are kept
abbrev pub is_inside : Option Format → Part → List ℕ → ℕ → Bool
is_inside None p lens i = true
is_inside (Some Nulls) p lens i = true
is_inside (Some Bits) p lens i = true
is_inside (Some Fixed) p lens i = true
is_inside (Some (Text z)) p lens i = true
is_inside (Some Struct) p lens i = true
is_inside (Some (Lists z)) p lens i = true
is_inside (Some FixedList) p lens i = true
is_inside (Some TextView) p lens i = is_view p lens i
is_inside (Some (ListView z)) p lens i = is_list_view z p (slice_index lens 0) i
is_inside (Some Union) p lens i = true
is_inside (Some DenseUnion) p lens i = true

-- what the rows at picks reach does
abbrev pub AreInside : Part → List (Option ℕ) → List ℕ → Type 0
AreInside p q lens = AllAt p q (is_inside p.format p lens)

-- the bits say which rows at picks are there
pub record ShowsRows (p : Part) (q : List (Option ℕ)) (valid : List ℕ) : Type 0 where
  pub shows : (k : ℕ) → k < length q
      → is_valid valid k ≡ is_some (place_of p (slice_index_or q k None))

-- the bit of a row at a place, and a clear one where none is
abbrev pub bit_in : List ℕ → Option ℕ → Bool
bit_in bs None = false
bit_in bs (Some i) = bit_of bs i

-- the first n bits of the byte are those from `first` on, and the others are clear
pub record IsByteOf (f : ℕ → Bool) (first n byte : ℕ) : Type 0 where
  pub bits : (i : ℕ) → i < n → (bit_at byte i == 1) ≡ f (first + i)
  pub rest : (i : ℕ) → n ≤ i → bit_at byte i ≡ 0

-- Below, of the first n picks.

pub record AreBits (p : Part) (q : List (Option ℕ)) (n : ℕ) (out : List ℕ) : Type 0 where
  pub values : (k i : ℕ) → k < n → place_of p (slice_index_or q k None) ≡ Some i
      → bit_of out k ≡ bit_of p.values i

-- w bytes of the source for each
pub record AreCopied (w : ℕ) (src : List ℕ) (p : Part) (q : List (Option ℕ)) (n : ℕ)
    (out : List ℕ) : Type 0 where
  pub values : (k i : ℕ) → k < n → place_of p (slice_index_or q k None) ≡ Some i
      → take w (drop (k * w) out) ≡ take w (drop (i * w) src)

-- the items of each row end where those of the rows before it and its own do
pub record AreOffsets (z : Offsets) (p : Part) (q : List (Option ℕ)) (n : ℕ) (out : List ℕ)
    : Type 0 where
  pub ends : (k : ℕ) → k ≤ n → offset_at z out k ≡ items_len z p (take k q)

abbrev pub row_text : Offsets → Part → Option ℕ → List ℕ
row_text z p None = []
row_text z p (Some i) =
    slice_range p.values (offset_at z p.offsets i) (offset_at z p.offsets (i + 1))

-- the texts at picks, one behind another
unfoldable pub texts_of : Offsets → Part → List (Option ℕ) → List ℕ
texts_of z p q = flat_map (λ o. row_text z p (place_of p o)) q

-- the id of the row at a pick of a union; the first child's where the pick is null
abbrev pub id_at : Part → Option ℕ → ℕ
id_at p None = slice_index p.sizes 0
id_at p (Some i) = slice_index p.values (p.offset + i)

pub record AreTagged (p : Part) (q : List (Option ℕ)) (n : ℕ) (out : List ℕ) : Type 0 where
  pub ids : (k : ℕ) → k < n → slice_index out k ≡ id_at p (slice_index_or q k None)

-- where the row of each pick of a dense union stands: behind the rows of its child before it
pub record AreDense (p : Part) (q : List (Option ℕ)) (n : ℕ) (out : List ℕ) : Type 0 where
  pub starts : (k : ℕ) → k < n → offset_at Short out k
      ≡ length (dense_rows p (take k q) (dense_child p (slice_index_or q k None)))

-- these are a column's rows at picks, each of which is null or one of the rows: null where a pick
-- is, or any there, where they are loose
pub record AreAt (loose : Bool) (q : List (Option ℕ)) (rows new : List RowValue) : Type 0 where
  pub len : length new ≡ length q
  pub within : AreWithin q (length rows)
  pub at : (k i : ℕ) → k < length q → slice_index_or q k None ≡ Some i
      → slice_index_or new k null ≡ slice_index_or rows i null
  pub nulls : loose ≡ false → (k : ℕ) → k < length q → slice_index_or q k None ≡ None
      → slice_index_or new k null ≡ null

-- each child's rows are at its picks
pub record AreChildrenAt (qs : List Picking) (cs ds : List (List RowValue)) : Type 0 where
  pub old_len : length cs ≡ length qs
  pub new_len : length ds ≡ length qs
  pub at : (j : ℕ) (q : Picking) → j < length qs
      → AreAt true (slice_index_or qs j q).picks (slice_index_or cs j []) (slice_index_or ds j [])

-- no pick is null
pub record AreFull (q : List (Option ℕ)) : Type 0 where
  pub full : (k : ℕ) → k < length q → slice_index_or q k None ≡ None → ⊥

-- w has the rows of p at the picks, where its children have theirs, whatever its other rows are
pub record IsOwnTaken (p w : Part) (q : Picking) : Type 0 where
  pub children : w.children ≡ p.children
  pub len : w.len ≡ length q.picks
  pub sound : is_sound w (map (λ (i : Picking). length i.picks) (inners p q)) ≡ true
  pub column : (cs ds : List (List RowValue)) → AreChildrenAt (inners p q) cs ds
      → AreAt (tags p.format) q.picks (column_of p cs) (column_of w ds)

-- w has the rows of p at the picks over the very children of p
pub record IsViewTaken (p w : Part) (q : Picking) : Type 0 where
  pub children : w.children ≡ p.children
  pub len : w.len ≡ length q.picks
  pub sound : (lens : List ℕ) → AreInside p q.picks lens → is_sound w lens ≡ true
  pub column : (cs : List (List RowValue)) → column_of w cs ≡ picked q.picks (column_of p cs)

-- w has the rows of p: as they stand where they are kept, and else those at the picks
abbrev pub TakenAs : Bool → Bool → Part → Part → Picking → Type 0
TakenAs true keeping p w q = w ≡ p
TakenAs false true p w q = IsViewTaken p w q
TakenAs false false p w q = IsOwnTaken p w q

abbrev pub IsTaken : Part → Part → Picking → Type 0
IsTaken p w q = TakenAs q.kept (keeps p.format) p w q
