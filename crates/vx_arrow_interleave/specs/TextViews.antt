-- Views of texts among the rows of several tables.
use Rattle.std.specs.Prelude.{ℕ, ◌+◌, ◌*◌, ◌^◌, ◌<◌, ◌≤◌, ◌≡◌, ⊤, true, List, [], ◌++◌, map, take, drop, length, nat_lt, replicate, slice_index, slice_index_or, if◌then◌else◌, Vec, Option, Some}
use Rattle.std.specs.Int.{to_le_bytes, w32}
use Rattle.std.specs.declared.alloc.Global.{Global}
use Rattle.vx_arrow_image.specs.declared.format.Format.{Format}
use Rattle.vx_arrow_image.specs.declared.format.Format.TheVariants.{TextView}
use Rattle.vx_arrow_image.specs.Image.{Part, is_valid, view_buffer, view_len}
use Rattle.vx_arrow_interleave.specs.declared.spans.Span as spans
use Rattle.vx_arrow_interleave.specs.Given.{viewed_items}
use Rattle.vx_arrow_interleave.specs.Sources.{part_at}
use Rattle.vx_arrow_interleave.specs.Spots.{Spot, spot_at, spots}

-- row i has a view; where it is there, its text can be counted, and a long one is in one of n
-- buffers
pub record HoldsView (n : ℕ) (p : Part) (i : ℕ) : Type 0 where
  pub held : 16 * i + 16 ≤ length p.values
  pub small : is_valid p.valid i ≡ true → view_len p i < 2 ^ 31
  pub buffer : is_valid p.valid i ≡ true → 12 < view_len p i → view_buffer p i < n

-- each row has, and what they show of each of n buffers can be counted
pub record ShowViews (n : ℕ) (ps : List Part) (ss : List Spot) : Type 0 where
  pub views : (k : ℕ) → k < length ss
      → HoldsView n (part_at ps (spot_at ss k).source) (spot_at ss k).row
  pub few : (j : ℕ) → j < n → length (viewed_items ps ss j) < 2 ^ 31

-- the rows of lists of spans
abbrev pub lists_in : List (Vec spans.Span Global) → List (List Spot)
lists_in vs = map (λ (v : Vec spans.Span Global). spots v.items) vs

abbrev pub list_at : List (Vec spans.Span Global) → ℕ → List Spot
list_at vs j = slice_index_or (lists_in vs) j []

-- the bytes of view i as they are, and with another start
abbrev pub same_view : Part → ℕ → List ℕ
same_view p i = take 16 (drop (16 * i) p.values)

abbrev pub moved_view : Part → ℕ → ℕ → List ℕ
moved_view p i start = take 12 (drop (16 * i) p.values) ++ to_le_bytes w32 start

-- zeros for a null; a long text's view has a new start
abbrev pub view_row : Part → ℕ → ℕ → List ℕ
view_row p i start =
    if is_valid p.valid i then
    (if nat_lt 12 (view_len p i) then moved_view p i start else same_view p i)
    else replicate 16 0

-- the view of a row behind others: its text is behind what they show of its buffer
abbrev pub view_behind : List Part → List Spot → Spot → List ℕ
view_behind ps ss s =
    view_row (part_at ps s.source) s.row
    (length (viewed_items ps ss (view_buffer (part_at ps s.source) s.row)))

-- a view for each row
pub record AreViews (ps : List Part) (ss : List Spot) (out : List ℕ) : Type 0 where
  pub bytes : (k : ℕ) → k < length ss
      → take 16 (drop (16 * k) out) ≡ view_behind ps (take k ss) (spot_at ss k)

-- views that are written beforehand, of formats that have some
abbrev pub ViewsOf : Option Format → List Part → List Spot → List ℕ → Type 0
ViewsOf (Some TextView) ps ss out = (length out ≡ 16 * length ss) × AreViews ps ss out
ViewsOf f ps ss out = ⊤

-- span k
abbrev pub span_at : List spans.Span → ℕ → spans.Span
span_at ss k = slice_index_or ss k (record { source = 0; start = 0; len = 0 })

-- how many bytes the rows so far show of each of n buffers, and their views
pub record ViewsTo (n : ℕ) (ps : List Part) (ss : List Spot) (starts out : List ℕ) : Type 0 where
  pub counts : (j : ℕ) → j < n → slice_index starts j ≡ length (viewed_items ps ss j)
  pub views : AreViews ps ss out
