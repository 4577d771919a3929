-- The column that rows of several tables are.
use Rattle.std.specs.Prelude.{ℕ, ◌<◌, ◌≡◌, true, List, [], ◌∷◌, ◌++◌, map, length, slice_index_or, Some, if◌then◌else◌}
use Rattle.vx_arrow_image.specs.declared.image.Room as rooms
use Rattle.vx_arrow_image.specs.Rows.{RowValue}
use Rattle.vx_arrow_image.specs.Image.{Part, column_in, column_of, is_sound}
use Rattle.vx_arrow_interleave.specs.Given.{belows, given}
use Rattle.vx_arrow_interleave.specs.Sources.{AreRows, part_at, shows_valid}
use Rattle.vx_arrow_interleave.specs.Spots.{Spot, gathered, spot_at}

-- a node of the sources' format over other lists, with as many rows as spots
abbrev pub joined_part : List Part → List Spot → List ℕ → List ℕ → List ℕ → List ℕ → Part
joined_part ps ss valid offsets values sizes =
    record {
      format = (part_at ps 0).format;
      width = (part_at ps 0).width;
      len = length ss;
      offset = 0;
      children = (part_at ps 0).children;
      valid = if shows_valid ps then valid else [];
      offsets = offsets;
      values = values;
      sizes = sizes;
    }

-- and over those of a room
abbrev pub room_part : List Part → List Spot → rooms.Room → Part
room_part ps ss r = joined_part ps ss r.valid.now r.offsets.now r.values.now r.sizes.now

abbrev pub joined_by : List (List Part) → List (List Spot) → List rooms.Room → List Part
joined_by [] st rs = []
joined_by (ps ∷ gs) [] rs = []
joined_by (ps ∷ gs) (ss ∷ st) [] = []
joined_by (ps ∷ gs) (ss ∷ st) (r ∷ rs) = room_part ps ss r ∷ joined_by gs st rs

-- the table that rooms hold, at rows of the tables' columns
abbrev pub joined : List (List Part) → List Spot → List rooms.Room → List Part
joined gs ss rs = joined_by gs (given gs (ss ∷ [])) rs

-- the table of a source
abbrev pub table_of : ℕ → List (List Part) → List Part
table_of s gs = map (λ (ps : List Part). part_at ps s) gs

-- the rooms hold the rows at spots, where each of m tables means a column; they mean some column in
-- any case
pub record MeansGathered (m : ℕ) (gs : List (List Part)) (ss : List Spot) (rs : List rooms.Room)
    : Type 0 where
  pub sound : (rows : List RowValue) × (column_in (joined gs ss rs) ≡ Some rows)
  pub rows : (columns : ℕ → List RowValue)
      → ((s : ℕ) → s < m → column_in (table_of s gs) ≡ Some (columns s))
      → column_in (joined gs ss rs) ≡ Some (gathered ss columns)

-- ---- one node

-- the rows of each child are those at its spots, of each of m sources
pub record AreChildren (m : ℕ) (bs : List (List Spot)) (css : ℕ → List (List RowValue))
    (ds : List (List RowValue)) : Type 0 where
  pub old_len : (s : ℕ) → s < m → length (css s) ≡ length bs
  pub new_len : length ds ≡ length bs
  pub source : (j k : ℕ) → j < length bs → k < length (slice_index_or bs j [])
      → (spot_at (slice_index_or bs j []) k).source < m
  pub within : (j k : ℕ) → j < length bs → k < length (slice_index_or bs j [])
      → (spot_at (slice_index_or bs j []) k).row
      < length (slice_index_or (css (spot_at (slice_index_or bs j []) k).source) j [])
  pub at : (j : ℕ) → j < length bs → slice_index_or ds j []
      ≡ gathered (slice_index_or bs j []) (λ s. slice_index_or (css s) j [])

-- w has the rows of the nodes ps at spots, where its children have theirs
pub record IsJoined (ps : List Part) (ss : List Spot) (w : Part) : Type 0 where
  pub children : w.children ≡ length (belows ps ss)
  pub alike : (s : ℕ) → s < length ps → (part_at ps s).children ≡ length (belows ps ss)
  pub rows : AreRows ps ss
  pub len : w.len ≡ length ss
  pub sound : is_sound w (map length (belows ps ss)) ≡ true
  pub column : (css : ℕ → List (List RowValue)) (ds : List (List RowValue))
      → AreChildren (length ps) (belows ps ss) css ds
      → column_of w ds ≡ gathered ss (λ s. column_of (part_at ps s) (css s))

-- each node does, of m sources
abbrev pub AllJoined : ℕ → List (List Part) → List (List Spot) → List Part → Type 0
AllJoined m [] st ws = (st ≡ []) × (ws ≡ [])
AllJoined m (ps ∷ gs) [] ws = ⊥
AllJoined m (ps ∷ gs) (ss ∷ st) [] = ⊥
AllJoined m (ps ∷ gs) (ss ∷ st) (w ∷ ws) =
    (length ps ≡ m) × (IsJoined ps ss w × AllJoined m gs (belows ps ss ++ st) ws)
