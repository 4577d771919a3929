-- The nodes at one place of each table.
use Rattle.std.specs.Prelude.{ℕ, ◌+◌, ◌<◌, ◌≤◌, ◌≡◌, Bool, true, List, [], length, slice_index_or, None}
use Rattle.std.specs.List.{list_any}
use Rattle.vx_arrow_image.specs.Image.{Part, is_placed, is_valid}
use Rattle.vx_arrow_columns.specs.Picks.{has_bits, shows_by}
use Rattle.vx_arrow_interleave.specs.Spots.{Spot, spot, spot_at}

-- where there is no node
abbrev pub no_part : Part
no_part =
    record {
      format = None;
      width = 0;
      len = 0;
      offset = 0;
      children = 0;
      valid = [];
      offsets = [];
      values = [];
      sizes = [];
    }

abbrev pub part_at : List Part → ℕ → Part
part_at ps s = slice_index_or ps s no_part

-- a part has the format of the first one, and as many children, of the same ids
pub record IsLike (p q : Part) : Type 0 where
  pub format : q.format ≡ p.format
  pub width : q.width ≡ p.width
  pub children : q.children ≡ p.children
  pub placed : is_placed q ≡ true

-- there are some, and each is like the first
pub record AreAlike (ps : List Part) : Type 0 where
  pub some : 0 < length ps
  pub like : (s : ℕ) → s < length ps → IsLike (part_at ps 0) (part_at ps s)

-- each spot is one of the rows of a source
pub record AreRows (ps : List Part) (ss : List Spot) : Type 0 where
  pub source : (k : ℕ) → k < length ss → (spot_at ss k).source < length ps
  pub row : (k : ℕ) → k < length ss
      → (spot_at ss k).row < (part_at ps (spot_at ss k).source).len

-- a row, counted from the start of its node's lists
abbrev pub moved : List Part → Spot → Spot
moved ps s = spot s.source ((part_at ps s.source).offset + s.row)

-- each spot is one of the rows, counted from the start of its node's lists
pub record ArePlaces (ps : List Part) (ss : List Spot) : Type 0 where
  pub source : (k : ℕ) → k < length ss → (spot_at ss k).source < length ps
  pub from : (k : ℕ) → k < length ss
      → (part_at ps (spot_at ss k).source).offset ≤ (spot_at ss k).row
  pub below : (k : ℕ) → k < length ss → (spot_at ss k).row
      < (part_at ps (spot_at ss k).source).offset + (part_at ps (spot_at ss k).source).len

-- whether the row at a place is there
abbrev pub is_there : List Part → Spot → Bool
is_there ps s = is_valid (part_at ps s.source).valid s.row

-- whether validity is written: where a source has some
abbrev pub shows_valid : List Part → Bool
shows_valid ps = shows_by (part_at ps 0).format (list_any (λ (p : Part). has_bits p.valid) ps)
