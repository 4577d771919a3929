-- Rows of several tables, in any order.
use Rattle.std.specs.Prelude.{ℕ, List, map, slice_index_or}
use Rattle.std.specs.List.{flat_map, range_with_len}
use Rattle.vx_arrow_image.specs.Rows.{RowValue, null}
use Rattle.vx_arrow_interleave.specs.declared.spans.Span as spans

-- a row of a source
pub record Spot : Type 0 where
  pub source : ℕ
  pub row : ℕ

abbrev pub spot : ℕ → ℕ → Spot
spot s r = record { source = s; row = r }

-- so many rows of a source from one on
abbrev pub run_of : ℕ → ℕ → ℕ → List Spot
run_of s start len = map (spot s) (range_with_len start len)

-- the rows of a span
abbrev pub span_spots : spans.Span → List Spot
span_spots s = run_of s.source s.start s.len

-- and of spans, in order
unfoldable pub spots : List spans.Span → List Spot
spots ss = flat_map span_spots ss

abbrev pub spot_at : List Spot → ℕ → Spot
spot_at ss k = slice_index_or ss k (spot 0 0)

-- the row of a column of each source that stands at a spot
abbrev pub row_at_spot : (ℕ → List RowValue) → Spot → RowValue
row_at_spot columns s = slice_index_or (columns s.source) s.row null

-- the rows at spots
abbrev pub gathered : List Spot → (ℕ → List RowValue) → List RowValue
gathered ss columns = map (row_at_spot columns) ss
