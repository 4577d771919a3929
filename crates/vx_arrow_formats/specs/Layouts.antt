-- Which buffers and children an array has.
use Rattle.std.specs.Prelude.{ℕ, ◌-◌, ◌^◌, List, Option, is_some, if◌then◌else◌}
use Rattle.std.specs.Option.{option_map}
use Rattle.vx_arrow_formats.specs.declared.kind.Kind.{Kind}
use Rattle.vx_arrow_formats.specs.declared.kind.Kind.TheVariants.{Nulls, Bits, Unsigned, Signed, Fixed, Text, TextView, Struct, Map, List as Lists, FixedList, ListView, SparseUnion, DenseUnion}
use Rattle.vx_arrow_formats.specs.declared.layout.Layout.{Layout}
use Rattle.vx_arrow_formats.specs.Parameters.{sized_in}
use Rattle.vx_arrow_formats.specs.Words.{word_in}
use Rattle.vx_arrow_image.specs.declared.format.Offsets.{Offsets}
use Rattle.vx_arrow_image.specs.declared.format.Offsets.TheVariants.{Short, Long}

-- no buffers and no children
abbrev pub bare : Layout
bare =
    record {
      format = 0;
      width = 0;
      buffers = 0;
      valid = 0;
      offsets = 0;
      values = 0;
      sizes = 0;
      children = 0;
      is_map = 0;
      codes = 0;
    }

-- validity, values
abbrev pub values_layout : ℕ → ℕ → Layout
values_layout width codes =
    record bare { format = 2; width = width; buffers = 2; valid = 1; values = 2; codes = codes }

-- validity, offsets, values
abbrev pub text_layout : Offsets → Layout
text_layout Short = record bare { format = 3; buffers = 3; valid = 1; offsets = 2; values = 3 }
text_layout Long = record bare { format = 4; buffers = 3; valid = 1; offsets = 2; values = 3 }

-- validity, offsets; one child
abbrev pub list_layout : Offsets → ℕ → Layout
list_layout Short map =
    record bare { format = 6; buffers = 2; valid = 1; offsets = 2; children = 1; is_map = map }
list_layout Long map =
    record bare { format = 7; buffers = 2; valid = 1; offsets = 2; children = 1; is_map = map }

-- validity, offsets, sizes; one child
abbrev pub list_view_layout : Offsets → Layout
list_view_layout Short =
    record bare { format = 10; buffers = 3; valid = 1; offsets = 2; sizes = 3; children = 1 }
list_view_layout Long =
    record bare { format = 11; buffers = 3; valid = 1; offsets = 2; sizes = 3; children = 1 }

abbrev pub layout_of_kind : Kind → Layout
layout_of_kind Nulls = bare
layout_of_kind Bits = record bare { format = 1; buffers = 2; valid = 1; values = 2 }
layout_of_kind (Unsigned width) = values_layout width 1
layout_of_kind (Signed width) = values_layout width 2
layout_of_kind (Fixed width) = values_layout width 0
layout_of_kind (Text size) = text_layout size
-- validity, views; data buffers, and their lengths as the last buffer
layout_of_kind TextView = record bare { format = 9; buffers = 3; valid = 1; values = 2 }
-- validity; as many children as the schema has
layout_of_kind Struct =
    record bare { format = 5; buffers = 1; valid = 1; children = 2 ^ 64 - 1 }
layout_of_kind Map = list_layout Short 1
layout_of_kind (Lists size) = list_layout size 0
-- validity; one child
layout_of_kind (FixedList width) =
    record bare { format = 8; width = width; buffers = 1; valid = 1; children = 1 }
layout_of_kind (ListView size) = list_view_layout size
-- type ids; a child for each id
layout_of_kind (SparseUnion ids) =
    record bare { format = 12; buffers = 1; values = 1; children = ids }
-- type ids, offsets; a child for each id
layout_of_kind (DenseUnion ids) =
    record bare { format = 13; buffers = 2; values = 1; offsets = 2; children = ids }

-- the kind that a format string names
abbrev pub kind_in : List ℕ → Option Kind
kind_in text = if is_some (word_in text) then word_in text else sized_in text

-- how an array of a format is stored
abbrev pub layout_in : List ℕ → Option Layout
layout_in text = option_map layout_of_kind (kind_in text)
