-- Views of texts that stand one after another in one buffer.
use Rattle.std.specs.Prelude.{ℕ, ◌+◌, List, [], Option, Some, None, slice_index, slice_range}
use Rattle.vx_types.specs.Text.{view_of}
use Rattle.vx_types.specs.declared.text.BinaryView.{BinaryView}

abbrev pub empty_view : BinaryView
empty_view = view_of [] 0 0

-- the view of the text from an offset up to the next, at a pick; of the empty text at a null
abbrev pub text_view : List ℕ → List ℕ → Option ℕ → BinaryView
text_view offsets bytes None = empty_view
text_view offsets bytes (Some row) =
    view_of (slice_range bytes (slice_index offsets row) (slice_index offsets (row + 1))) 0
    (slice_index offsets row)
